-- The readings of a journal: what its records say.
use Rattle.std.specs.Prelude.{ℕ, List, [], ◌∷◌, ◌++◌, length, map, Bool, not, ◌&&◌, ◌==◌, Option, Some, None, option_and_then, option_to_list, slice_get, if◌then◌else◌}
use Rattle.std.specs.List.{flat_map, list_any}
use Rattle.std.specs.Option.{option_map_or}
use Rattle.std.specs.Str.{bytes_eq}
use Rattle.sha2.specs.Sha256.{sha256}
use Rattle.depot_base.specs.Zeros.{zeros}
use Rattle.depot_base.specs.declared.update.Update.{Update}
use Rattle.depot_base.specs.declared.voucher.Voucher.{Voucher}
use Rattle.depot_base.specs.declared.statement.Statement.{Statement}
use Rattle.depot_base.specs.declared.statement.Statement.TheVariants as statement
use Rattle.depot_base.specs.declared.statement.Signed.{Signed}
use Rattle.depot_base.specs.declared.proof.Proof.{Proof}
use Rattle.depot_base.specs.declared.record.Record.{Record}
use Rattle.depot_base.specs.declared.record.Record.TheVariants.{OwnPut, OwnVoucher, Foreign, Conviction, Held}
use Rattle.depot_model.specs.lists.Lists.{is_among, is_one_of, when}
use Rattle.depot_base.specs.declared.write.Wrote.{Wrote}
use Rattle.depot_base.specs.declared.write.Wrote.TheVariants.{Put, Gone}
use Rattle.depot_model.specs.texts.Contents.{NamedValue, names_value, wrote_under, Sighting, held_value, not_held, gone}
pub use Rattle.depot_model.specs.texts.Contents.{accused}
use Rattle.depot_model.specs.texts.Texts.{id_of_update}

-- ---- what one record says

abbrev pub update_in : Statement → List Update
update_in (statement.Update u) = u ∷ []
update_in (statement.Voucher v) = []

abbrev pub voucher_in : Statement → List Voucher
voucher_in (statement.Update u) = []
voucher_in (statement.Voucher v) = v ∷ []

abbrev pub accepted_by : Record → List Update
accepted_by (OwnPut u values) = u ∷ []
accepted_by (Foreign s) = update_in s.statement
accepted_by r = []

abbrev pub own_by : Record → List Statement
own_by (OwnPut u values) = statement.Update u ∷ []
own_by (OwnVoucher v) = statement.Voucher v ∷ []
own_by r = []

abbrev pub foreign_by : Record → List Signed
foreign_by (Foreign s) = s ∷ []
foreign_by r = []

abbrev pub proof_by : Record → List Proof
proof_by (Conviction p) = p ∷ []
proof_by r = []

abbrev pub value_by : Record → List (List ℕ)
value_by (OwnPut u values) = values
value_by (Held value) = value ∷ []
value_by r = []

-- the vouchers that the record keeps, the node's own and those of others
abbrev pub voucher_by : Record → List Voucher
voucher_by (OwnVoucher v) = v ∷ []
voucher_by (Foreign s) = voucher_in s.statement
voucher_by r = []

-- ---- the readings

-- the accepted updates, in order
abbrev pub accepted : List Record → List Update
accepted J = flat_map accepted_by J

-- the update that the record of a place, from 0, accepts, if it accepts one
abbrev pub accepted_at : List Record → ℕ → List Update
accepted_at J place = flat_map accepted_by (option_to_list (slice_get J place))

-- the node's own statements
abbrev pub own : List Record → List Statement
own J = flat_map own_by J

-- the signed statements of others
abbrev pub foreign : List Record → List Signed
foreign J = flat_map foreign_by J

-- the proofs that are kept, against the nodes that they accuse
abbrev pub proofs : List Record → List Proof
proofs J = flat_map proof_by J

abbrev pub convicted : List Record → List ℕ
convicted J = map accused (proofs J)

-- the ids that vouchers of others name
abbrev pub vouched : List Record → List (List ℕ)
vouched J = flat_map (λ s. flat_map (λ v. v.ids) (voucher_in s.statement)) (foreign J)

-- each value whose hash isn't that of one before it; these hashes come before them all
unfoldable pub first_values : List (List ℕ) → List (List ℕ) → List (List ℕ)
first_values hashes [] = []
first_values hashes (v ∷ vs) = if is_among (sha256 v) hashes then first_values hashes vs else v ∷ first_values (hashes ++ sha256 v ∷ []) vs

-- the values that are held, each hash once
abbrev pub held : List Record → List (List ℕ)
held J = first_values [] (flat_map value_by J)

-- ---- what is asked of them

-- an update of these has this id
unfoldable pub has_id : List Update → List ℕ → Bool
has_id us h = list_any (λ t. bytes_eq (id_of_update t) h) us

-- the first update of these with this id
unfoldable pub named : List Update → List ℕ → Option Update
named [] h = None
named (t ∷ ts) h = if bytes_eq (id_of_update t) h then Some t else named ts h

-- the update that a prev names: 32 zero bytes name nothing
unfoldable pub prev_of : List Update → List ℕ → Option Update
prev_of us h = if bytes_eq h zeros then None else named us h

-- the id of the last update of these, or h where there is none
abbrev pub last_own_behind : List ℕ → List Statement → List ℕ
last_own_behind h [] = h
last_own_behind h (statement.Update u ∷ ss) = last_own_behind (id_of_update u) ss
last_own_behind h (statement.Voucher v ∷ ss) = last_own_behind h ss

-- the id of the last own update, or 32 zero bytes
abbrev pub last_own : List Record → List ℕ
last_own J = last_own_behind zeros (own J)

-- the node is convicted
unfoldable pub is_convicted : List Record → ℕ → Bool
is_convicted J n = is_one_of n (convicted J)

-- another node vouched for the update; of a voucher it is false
unfoldable pub is_vouched : List Record → Statement → Bool
is_vouched J s = list_any (λ u. is_among (id_of_update u) (vouched J)) (update_in s)

-- a value of this hash is held
unfoldable pub holds_hash : List Record → List ℕ → Bool
holds_hash J h = list_any (λ v. bytes_eq (sha256 v) h) (held J)

-- a value of this hash and this length is held
unfoldable pub holds : List Record → List ℕ → ℕ → Bool
holds J h len = list_any (λ v. bytes_eq (sha256 v) h && (length v == len)) (held J)

-- the first of these values with this hash
abbrev pub value_with : List ℕ → List (List ℕ) → Option (List ℕ)
value_with h [] = None
value_with h (v ∷ vs) = if bytes_eq (sha256 v) h then Some v else value_with h vs

-- the held value of this hash, where it has this length
abbrev pub held_as : List Record → NamedValue → Option (List ℕ)
held_as J n = option_and_then (λ v. when (length v == n.size) v) (value_with n.hash (held J))

-- what the records show of what a write says: that it is a deletion, or the value that it names, or that this isn't held
abbrev pub seen_as : List Record → Wrote → Sighting
seen_as J Gone = gone
seen_as J (Put hash size) = option_map_or held_value (held_as J (record { hash = hash; size = size })) not_held

-- what they show of an update's write of a key; of an update that doesn't write it, no value
unfoldable pub seen_under : List Record → List ℕ → Update → Sighting
seen_under J key u = option_map_or (seen_as J) (wrote_under key u.writes) not_held

-- an accepted update names this hash and this length
unfoldable pub is_wanted : List Update → List ℕ → ℕ → Bool
is_wanted us h len = list_any (λ u. names_value u h len) us

-- an accepted update of another writer has this id
abbrev pub is_foreign : ℕ → List Update → List ℕ → Bool
is_foreign me us h = list_any (λ t. bytes_eq (id_of_update t) h && not (t.writer == me)) us
