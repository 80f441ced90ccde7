-- Lists cut into groups, byte strings put in rising order, and the vouchers that are made of them: each member is kept.
use Rattle.std.proofs.Common.{◌≡◌, ℕ, zero, suc, ◌+◌, ◌-◌, ◌≤◌, List, [], ◌∷◌, length, arith, Bool, true, false, cond, refl, sym, subst, ◌∙◌, inl, inr, ◌⊎◌}
use Rattle.std.specs.List.{AllByRecursion}
use Rattle.std.specs.Str.{bytes_eq}
use Rattle.std.proofs.lemmas.Slice.Eq.{bytes_eq-Decides}
use Rattle.depot_base.specs.Parts.{is_below}
use Rattle.depot_base.specs.declared.voucher.Voucher.{Voucher}
use Rattle.depot_base.specs.declared.record.Record.{Record}
use Rattle.depot_model.specs.lists.Lists.{IsIn}
use Rattle.depot_model.specs.journals.Journal.{own}
use Rattle.depot_model.specs.checks.Vouching.{put_rising, rising, into_first, groups_behind, groups_of, numbered, new_vouchers}

-- ---- groups

-- a group that has it
pub record HasGroup {X : Type 0} (x : X) (gs : List (List X)) : Type 0 where
  pub group : List X
  pub on : IsIn group gs
  pub member : IsIn x group

group_behind : {X : Type 0} (x : X) (g : List X) (gs : List (List X)) → HasGroup x gs → HasGroup x (g ∷ gs)
group_behind x g gs h = record { group = h.group; on = inr h.on; member = h.member }

into_first_here : {X : Type 0} (x : X) (gs : List (List X)) → HasGroup x (into_first x gs)
into_first_here x [] = record { group = x ∷ []; on = inl refl; member = inl refl }
into_first_here x (g ∷ gs) = record { group = x ∷ g; on = inl refl; member = inl refl }

into_first_keeps : {X : Type 0} (x y : X) (gs : List (List X)) → HasGroup y gs → HasGroup y (into_first x gs)
into_first_keeps x y [] h = absurd h.on
into_first_keeps x y (g ∷ gs) h = elim h.on [
  | inl here ↦ record { group = x ∷ g; on = inl refl; member = inr (subst (λ (l : List _). IsIn y l) (sym here) h.member) }
  | inr there ↦ record { group = h.group; on = inr there; member = h.member }
]

groups_behind_keep : {X : Type 0} (size room : ℕ) (x : X) (xs : List X) → IsIn x xs → HasGroup x (groups_behind size room xs)
unfolding groups_behind
groups_behind_keep size room x [] never = absurd never
groups_behind_keep size zero x (y ∷ ys) (inl here) = group_behind x [] _ (subst (λ (z : _). HasGroup z (into_first y (groups_behind size (size - 1) ys))) here (into_first_here y (groups_behind size (size - 1) ys)))
groups_behind_keep size zero x (y ∷ ys) (inr there) = group_behind x [] _ (into_first_keeps y x (groups_behind size (size - 1) ys) (groups_behind_keep size (size - 1) x ys there))
groups_behind_keep size (suc room) x (y ∷ ys) (inl here) = subst (λ (z : _). HasGroup z (into_first y (groups_behind size room ys))) here (into_first_here y (groups_behind size room ys))
groups_behind_keep size (suc room) x (y ∷ ys) (inr there) = into_first_keeps y x (groups_behind size room ys) (groups_behind_keep size room x ys there)

-- each of a list is in a group of it
pub groups_keep : {X : Type 0} (size : ℕ) (x : X) (xs : List X) → IsIn x xs → HasGroup x (groups_of size xs)
unfolding groups_of
groups_keep size x [] never = absurd never
groups_keep size x (y ∷ ys) (inl here) = subst (λ (z : _). HasGroup z (into_first y (groups_behind size (size - 1) ys))) here (into_first_here y (groups_behind size (size - 1) ys))
groups_keep size x (y ∷ ys) (inr there) = into_first_keeps y x (groups_behind size (size - 1) ys) (groups_behind_keep size (size - 1) x ys there)

-- ---- what groups are

-- this many, at least one
pub record IsSized {X : Type 0} (size : ℕ) (g : List X) : Type 0 where
  pub some : 1 ≤ length g
  pub most : length g ≤ size

-- the first group is at most so long, the others are sized
abbrev Begins : {X : Type 0} → ℕ → ℕ → List (List X) → Type 0
Begins size room [] = ⊥
Begins size room (g ∷ gs) = (length g ≤ room) × AllByRecursion (IsSized size) gs

first_fits : {X : Type 0} (size : ℕ) (x : X) (gs : List (List X)) → 1 ≤ size → Begins size (size - 1) gs → AllByRecursion (IsSized size) (into_first x gs)
first_fits size x [] some never = absurd never
first_fits size x (g ∷ gs) some b = (record { some = omega arith; most = omega (arith, some, b.0) }, b.1)

one_more : {X : Type 0} (size room : ℕ) (x : X) (gs : List (List X)) → Begins size room gs → Begins size (suc room) (into_first x gs)
one_more size room x [] never = absurd never
one_more size room x (g ∷ gs) b = (omega (arith, b.0), b.1)

groups_begin : {X : Type 0} (size room : ℕ) (xs : List X) → 1 ≤ size → Begins size room (groups_behind size room xs)
unfolding groups_behind
groups_begin size room [] some = (omega arith, tt)
groups_begin size zero (x ∷ xs) some = (omega arith, first_fits size x (groups_behind size (size - 1) xs) some (groups_begin size (size - 1) xs some))
groups_begin size (suc room) (x ∷ xs) some = one_more size room x (groups_behind size room xs) (groups_begin size room xs some)

-- no group is empty or too long
pub groups_sized : {X : Type 0} (size : ℕ) (xs : List X) → 1 ≤ size → AllByRecursion (IsSized size) (groups_of size xs)
unfolding groups_of
groups_sized size [] some = tt
groups_sized size (x ∷ xs) some = first_fits size x (groups_behind size (size - 1) xs) some (groups_begin size (size - 1) xs some)

-- one more at the front makes a group only where there is none
into_first_few : {X : Type 0} (x : X) (gs : List (List X)) (most : ℕ) → 1 ≤ most → length gs ≤ most → length (into_first x gs) ≤ most
into_first_few x [] most some few = some
into_first_few x (g ∷ gs) most some few = few

groups_behind_few : {X : Type 0} (size room : ℕ) (xs : List X) → length (groups_behind size room xs) ≤ 1 + length xs
unfolding groups_behind
groups_behind_few size room [] = omega arith
groups_behind_few size zero (x ∷ xs) = let few = into_first_few x (groups_behind size (size - 1) xs) (1 + length xs) (omega arith) (groups_behind_few size (size - 1) xs) in omega (arith, few)
groups_behind_few size (suc room) (x ∷ xs) = into_first_few x (groups_behind size room xs) (1 + length (x ∷ xs)) (omega arith) (omega (arith, groups_behind_few size room xs))

-- there are no more groups than members
groups_few : {X : Type 0} (size : ℕ) (xs : List X) → length (groups_of size xs) ≤ length xs
unfolding groups_of
groups_few size [] = omega arith
groups_few size (x ∷ xs) = into_first_few x (groups_behind size (size - 1) xs) (length (x ∷ xs)) (omega arith) (omega (arith, groups_behind_few size (size - 1) xs))

-- a member of a group is one of the list, or the one at the front
from_first_group : {X : Type 0} (x y : X) (gs : List (List X)) (g : List X) → IsIn g (into_first x gs) → IsIn y g → (x ≡ y) ⊎ HasGroup y gs
from_first_group x y [] g (inl same) on = elim (subst (λ (l : List _). IsIn y l) (sym same) on) [ inl here ↦ inl here | inr never ↦ absurd never ]
from_first_group x y [] g (inr never) on = absurd never
from_first_group x y (h ∷ gs) g (inl same) on = elim (subst (λ (l : List _). IsIn y l) (sym same) on) [
  | inl here ↦ inl here
  | inr there ↦ inr (record { group = h; on = inl refl; member = there })
]
from_first_group x y (h ∷ gs) g (inr later) on = inr (record { group = g; on = inr later; member = on })

from_groups_behind : {X : Type 0} (size room : ℕ) (x : X) (xs : List X) → HasGroup x (groups_behind size room xs) → IsIn x xs
unfolding groups_behind
from_groups_behind size room x [] h = elim h.on [ inl same ↦ subst (λ (l : List _). IsIn x l) (sym same) h.member | inr never ↦ absurd never ]
from_groups_behind size zero x (y ∷ ys) h = elim h.on [
  | inl empty ↦ absurd (subst (λ (l : List _). IsIn x l) (sym empty) h.member)
  | inr later ↦ elim (from_first_group y x (groups_behind size (size - 1) ys) h.group later h.member) [ inl here ↦ inl here | inr g ↦ inr (from_groups_behind size (size - 1) x ys g) ]
]
from_groups_behind size (suc room) x (y ∷ ys) h = elim (from_first_group y x (groups_behind size room ys) h.group h.on h.member) [ inl here ↦ inl here | inr g ↦ inr (from_groups_behind size room x ys g) ]

-- what is in a group is one of the list
pub from_groups : {X : Type 0} (size : ℕ) (x : X) (xs : List X) → HasGroup x (groups_of size xs) → IsIn x xs
unfolding groups_of
from_groups size x [] h = absurd h.on
from_groups size x (y ∷ ys) h = elim (from_first_group y x (groups_behind size (size - 1) ys) h.group h.on h.member) [ inl here ↦ inl here | inr g ↦ inr (from_groups_behind size (size - 1) x ys g) ]

-- ---- rising order

rising_step : (below same : Bool) (h k x : List ℕ) (xs more : List (List ℕ)) → (same ≡ true → h ≡ x) → (h ≡ k) ⊎ IsIn k (x ∷ xs) → ((h ≡ k) ⊎ IsIn k xs → IsIn k more) → IsIn k (cond below (h ∷ x ∷ xs) (cond same (x ∷ xs) (x ∷ more)))
rising_step true same h k x xs more is on behind = on
rising_step false true h k x xs more is (inl here) behind = inl (sym (is refl) ∙ here)
rising_step false true h k x xs more is (inr there) behind = there
rising_step false false h k x xs more is (inl here) behind = inr (behind (inl here))
rising_step false false h k x xs more is (inr (inl here)) behind = inl here
rising_step false false h k x xs more is (inr (inr there)) behind = inr (behind (inr there))

put_rising_keeps : (h k : List ℕ) (xs : List (List ℕ)) → (h ≡ k) ⊎ IsIn k xs → IsIn k (put_rising h xs)
unfolding put_rising
put_rising_keeps h k [] on = on
put_rising_keeps h k (x ∷ xs) on = rising_step (is_below h x) (bytes_eq h x) h k x xs (put_rising h xs) (bytes_eq-Decides h x).0 on (put_rising_keeps h k xs)

-- each byte string is in the rising list
pub rising_keeps : (h : List ℕ) (hs : List (List ℕ)) → IsIn h hs → IsIn h (rising hs)
unfolding rising
rising_keeps h [] never = absurd never
rising_keeps h (x ∷ xs) (inl here) = put_rising_keeps x h (rising xs) (inl here)
rising_keeps h (x ∷ xs) (inr there) = put_rising_keeps x h (rising xs) (inr (rising_keeps h xs there))

rising_from : (below same : Bool) (h k x : List ℕ) (xs more : List (List ℕ)) → IsIn k (cond below (h ∷ x ∷ xs) (cond same (x ∷ xs) (x ∷ more))) → (IsIn k more → (h ≡ k) ⊎ IsIn k xs) → (h ≡ k) ⊎ IsIn k (x ∷ xs)
rising_from true same h k x xs more on behind = on
rising_from false true h k x xs more on behind = inr on
rising_from false false h k x xs more (inl here) behind = inr (inl here)
rising_from false false h k x xs more (inr there) behind = elim (behind there) [ inl same ↦ inl same | inr old ↦ inr (inr old) ]

pub put_rising_from : (h k : List ℕ) (xs : List (List ℕ)) → IsIn k (put_rising h xs) → (h ≡ k) ⊎ IsIn k xs
unfolding put_rising
put_rising_from h k [] on = on
put_rising_from h k (x ∷ xs) on = rising_from (is_below h x) (bytes_eq h x) h k x xs (put_rising h xs) on (put_rising_from h k xs)

-- and nothing else does
pub from_rising : (h : List ℕ) (hs : List (List ℕ)) → IsIn h (rising hs) → IsIn h hs
unfolding rising
from_rising h [] never = absurd never
from_rising h (x ∷ xs) on = elim (put_rising_from x h (rising xs) on) [ inl here ↦ inl here | inr later ↦ inr (from_rising h xs later) ]

-- ---- vouchers

-- a voucher that names it
pub record HasVoucher (h : List ℕ) (vs : List Voucher) : Type 0 where
  pub voucher : Voucher
  pub on : IsIn voucher vs
  pub names : IsIn h voucher.ids

numbered_keep : (me n : ℕ) (gs : List (List (List ℕ))) (h : List ℕ) → HasGroup h gs → HasVoucher h (numbered me n gs)
numbered_keep me n [] h g = absurd g.on
numbered_keep me n (x ∷ xs) h g = elim g.on [
  | inl here ↦ record { voucher = record { node = me; seq = n; ids = rising x }; on = inl refl; names = rising_keeps h x (subst (λ (l : List (List ℕ)). IsIn h l) (sym here) g.member) }
  | inr there ↦ let v = numbered_keep me (suc n) xs h (record { group = g.group; on = there; member = g.member }) in record { voucher = v.voucher; on = inr v.on; names = v.names }
]

-- each id is named by a voucher of its group
pub vouchers_keep : (me n size : ℕ) (ids : List (List ℕ)) (h : List ℕ) → IsIn h ids → HasVoucher h (numbered me n (groups_of size ids))
vouchers_keep me n size ids h on = numbered_keep me n (groups_of size ids) h (groups_keep size h ids on)

pub numbered_count : (me n : ℕ) (gs : List (List (List ℕ))) → length (numbered me n gs) ≡ length gs
numbered_count me n [] = refl
numbered_count me n (g ∷ gs) = omega (arith, numbered_count me (suc n) gs)

-- there are no more new vouchers than ids
pub vouchers_few : (me : ℕ) (J : List Record) (ids : List (List ℕ)) → length (new_vouchers me J ids) ≤ length ids
unfolding new_vouchers
vouchers_few me J ids = omega (arith, numbered_count me (length (own J)) (groups_of 256 ids), groups_few 256 ids)
