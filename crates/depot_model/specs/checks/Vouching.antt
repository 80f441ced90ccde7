-- The vouchers that a node makes for what it took from others.
use Rattle.std.specs.Prelude.{◌≡◌, ℕ, zero, suc, ◌-◌, List, [], ◌∷◌, ◌++◌, length, map, Bool, Option, Some, None, Result, Ok, Err, option_map, if◌then◌else◌}
use Rattle.std.specs.List.{flat_map, list_any}
use Rattle.std.specs.Str.{bytes_eq}
use Rattle.depot_base.specs.declared.limits.TheConstants.{MOST_IDS}
use Rattle.depot_base.specs.Parts.{is_below}
use Rattle.depot_base.specs.declared.voucher.Voucher.{Voucher}
use Rattle.depot_base.specs.declared.record.Record.{Record}
use Rattle.depot_base.specs.declared.record.Record.TheVariants.{OwnVoucher}
use Rattle.depot_model.specs.declared.bundle.VoucherError.{VoucherError}
use Rattle.depot_model.specs.declared.bundle.VoucherError.TheVariants as refused
use Rattle.depot_model.specs.lists.Lists.{is_among, first}
use Rattle.depot_model.specs.journals.Journal.{own}
pub use Rattle.depot_model.specs.journals.Journal.{is_foreign}
use Rattle.depot_model.specs.checks.Checks.{Setting}
use Rattle.depot_model.specs.checks.Room.{full_by}
use Rattle.depot_model.specs.checks.Limits.{Limit, spent, full, spent_by, IsCutShort}

-- ---- what a node vouched for

-- the own voucher that a record keeps
abbrev pub own_voucher_by : Record → List Voucher
own_voucher_by (OwnVoucher v) = v ∷ []
own_voucher_by r = []

-- the node's own vouchers
abbrev pub own_vouchers : List Record → List Voucher
own_vouchers J = flat_map own_voucher_by J

-- an own voucher names this id
abbrev pub is_mine_vouched : List Record → List ℕ → Bool
is_mine_vouched J h = list_any (λ v. is_among h v.ids) (own_vouchers J)

-- ---- sets of byte strings

-- a byte string put into its place among others that rise; one that is there is not put twice
unfoldable pub put_rising : List ℕ → List (List ℕ) → List (List ℕ)
put_rising h [] = h ∷ []
put_rising h (x ∷ xs) = if is_below h x then h ∷ x ∷ xs else (if bytes_eq h x then x ∷ xs else x ∷ put_rising h xs)

-- byte strings in rising order, each once
unfoldable pub rising : List (List ℕ) → List (List ℕ)
rising [] = []
rising (h ∷ hs) = put_rising h (rising hs)

-- ---- groups

-- one more before the first group
abbrev pub into_first : {X : Type 0} → X → List (List X) → List (List X)
into_first x [] = (x ∷ []) ∷ []
into_first x (g ∷ gs) = (x ∷ g) ∷ gs

-- groups of a size, where the first has room for this many
unfoldable pub groups_behind : {X : Type 0} → ℕ → ℕ → List X → List (List X)
groups_behind size room [] = [] ∷ []
groups_behind size zero (x ∷ xs) = [] ∷ into_first x (groups_behind size (size - 1) xs)
groups_behind size (suc room) (x ∷ xs) = into_first x (groups_behind size room xs)

-- a list cut into groups of a size, of which the last may be shorter; no group is empty
unfoldable pub groups_of : {X : Type 0} → ℕ → List X → List (List X)
groups_of size [] = []
groups_of size (x ∷ xs) = into_first x (groups_behind size (size - 1) xs)

-- ---- new vouchers

-- a voucher of a node for each group, with the seqs from n on
abbrev pub numbered : ℕ → ℕ → List (List (List ℕ)) → List Voucher
numbered me n [] = []
numbered me n (g ∷ gs) = record { node = me; seq = n; ids = rising g } ∷ numbered me (suc n) gs

-- the vouchers that a node makes for these ids: one for each group of 256, sorted
unfoldable pub new_vouchers : ℕ → List Record → List (List ℕ) → List Voucher
new_vouchers me J ids = numbered me (length (own J)) (groups_of MOST_IDS ids)

-- the records of new vouchers
abbrev pub records_of : List Voucher → List Record
records_of vs = map (λ v. OwnVoucher v) vs

-- the first limit that these vouchers meet, or none: too few leaves are left to sign them, or there is no room for them all
unfoldable pub limit_of_new : Setting → List Record → List Voucher → Option Limit
limit_of_new here J vs = first (spent_by here J (length vs) ∷ option_map full (full_by here.me J (records_of vs)) ∷ [])

-- the first limit that the vouchers for these ids meet, or none
unfoldable pub limit_of_vouchers : Setting → List Record → List (List ℕ) → Option Limit
limit_of_vouchers here J ids = limit_of_new here J (new_vouchers here.me J ids)

-- What a node answers where it is to vouch for these ids, and the journal after it. Memory may come in place of each
-- answer, and then nothing is appended; nor is it by a stopped node, or where a limit is met.
abbrev pub Vouches : Setting → List Record → List (List ℕ) → Result (Unit {0}) VoucherError → List Record → Type 0
Vouches here J ids (Ok done) after = (limit_of_vouchers here J ids ≡ None) × (after ≡ J ++ records_of (new_vouchers here.me J ids))
Vouches here J ids (Err refused.Memory) after = after ≡ J
Vouches here J ids (Err refused.Disk) after = (limit_of_vouchers here J ids ≡ None) × IsCutShort J (records_of (new_vouchers here.me J ids)) after
Vouches here J ids (Err refused.Stopped) after = after ≡ J
Vouches here J ids (Err (refused.Spent n)) after = (limit_of_vouchers here J ids ≡ Some (spent n)) × (after ≡ J)
Vouches here J ids (Err (refused.Full what)) after = (limit_of_vouchers here J ids ≡ Some (full what)) × (after ≡ J)
