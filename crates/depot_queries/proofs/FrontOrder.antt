-- The places of the records that a bundle begins with, in order.
use Rattle.std.proofs.Common.{◌≡◌, ℕ, zero, suc, ◌+◌, ◌<◌, Bool, true, false, cond, not, eqb, ◌==◌, ◌||◌, List, [], ◌∷◌, ◌++◌, length, map, filter, take, get_or, nat_lt, refl, sym, ap, subst, ◌∙◌, arith, inl, inr}
use Rattle.std.specs.Prelude.{slice_get}
use Rattle.std.specs.List.{AllByRecursion, dedup, list_any}
use Rattle.std.specs.List.Sorted.{IsPermutation, IsSorted, IsStrictlySortedBy}
use Rattle.std.specs.Option.{option_to_list}
use Rattle.std.specs.Ordering.{nat_cmp}
use Rattle.std.specs.declared.cmp.Ordering.TheVariants.{Less, Equal, Greater}
use Rattle.std.proofs.lemmas.Bool.{lt-ltb, ltb-true}
use Rattle.std.proofs.lemmas.List.{map-append}
use Rattle.std.proofs.lemmas.List.Elements.{filter-append}
use Rattle.std.proofs.lemmas.List.Kept.{Contains-dedup_nat, Contains-from_dedup}
use Rattle.std.proofs.lemmas.List.Sorted.{IsPermutation-sym}
use Rattle.std.proofs.lemmas.Map.Keys.{IsStrictlyIncreasing-dedup, sorted_from_strictly_increasing}
use Rattle.depot_base.specs.declared.record.Record.{Record}
use Rattle.depot_base.specs.declared.record.Record.TheVariants.{Birth, OwnPut, OwnVoucher, Foreign, Conviction, Held}
use Rattle.depot_base.specs.declared.voucher.Voucher.{Voucher}
use Rattle.depot_base.proofs.GeneralLaws.{or_none, take_next}
use Rattle.depot_base.proofs.MembershipLaws.{from_contains, to_contains}
use Rattle.depot_model.specs.exchange.Bundle.{records_where, convicts_other, proof_places, vouches_for, voucher_places}
use Rattle.depot_model.specs.journals.Journal.{accused}
use Rattle.depot_model.specs.lists.Lists.{IsIn, is_among}
use Rattle.depot_model.specs.checks.Vouching.{own_voucher_by}
use Rattle.depot_model.proofs.lists.Members.{all_from, among_from, among_to, any_from, any_to, chosen_behind, chosen_cases, chosen_front, in_last, in_left, in_parts, in_permuted}
use Rattle.depot_model.proofs.lists.RisingLists.{RisesByTest, one_rising}
use Rattle.depot_readings.specs.FrontPlaces.{AddsPlaces, convictions_from, vouches, vouches_at}
use Rattle.depot_readings.specs.declared.front_places.ConvictedAt.{ConvictedAt}
use Rattle.depot_readings.proofs.FrontPlaceLaws.{at_passing, passing_at}
use Rattle.depot_queries.specs.InFront.{AreVoucherPlaces}

-- ---- proofs

-- the conviction is that of a node that isn't one of these
abbrev pub is_other : List ℕ → ConvictedAt → Bool
is_other listed c = not (list_any (λ n. n == c.node) listed)

others_from : (listed : List ℕ) (n : ℕ) (J : List Record) → map (λ c. c.place) (filter (is_other listed) (convictions_from n J)) ≡ records_where (convicts_other listed) n J
unfolding convictions_from records_where
others_from listed n [] = refl
others_from listed n (Birth node h ∷ J) = others_from listed (n + 1) J
others_from listed n (OwnPut u values ∷ J) = others_from listed (n + 1) J
others_from listed n (OwnVoucher v ∷ J) = others_from listed (n + 1) J
others_from listed n (Foreign s ∷ J) = others_from listed (n + 1) J
others_from listed n (Held value ∷ J) = others_from listed (n + 1) J
others_from listed n (Conviction p ∷ J) = by_test (not (list_any (λ m. m == accused p) listed)) (others_from listed (n + 1) J) where
  by_test : (b : Bool) → map (λ c. c.place) (filter (is_other listed) (convictions_from (n + 1) J)) ≡ records_where (convicts_other listed) (n + 1) J
      → map (λ c. c.place) (cond b (record { node = accused p; place = n } ∷ filter (is_other listed) (convictions_from (n + 1) J)) (filter (is_other listed) (convictions_from (n + 1) J)))
      ≡ cond (b || false) (n ∷ records_where (convicts_other listed) (n + 1) J) (records_where (convicts_other listed) (n + 1) J)
  by_test true rest = ap (λ (ns : List ℕ). n ∷ ns) rest
  by_test false rest = rest

-- the places of the convictions of others are those of their records
pub others_are : (J : List Record) (listed : List ℕ) → map (λ c. c.place) (filter (is_other listed) (convictions_from 0 J)) ≡ proof_places J listed
others_are J listed = others_from listed 0 J

-- one conviction more
pub other_next : (listed : List ℕ) (cs : List ConvictedAt) (i : ℕ) (c : ConvictedAt) (b : Bool) → i < length cs → c ≡ get_or cs i c → is_other listed c ≡ b
    → map (λ x. x.place) (filter (is_other listed) (take (i + 1) cs)) ≡ map (λ x. x.place) (filter (is_other listed) (take i cs)) ++ cond b (c.place ∷ []) []
other_next listed cs i c b low is e =
    let place : ConvictedAt → ℕ = λ x. x.place in
    let front : List ConvictedAt = filter (is_other listed) (take i cs) in
    ap (λ (ds : List ConvictedAt). map place (filter (is_other listed) ds)) (take_next cs i c low is) ∙ ap (map place) (filter-append (is_other listed) (take i cs) (c ∷ [])) ∙ map-append place front (filter (is_other listed) (c ∷ []))
    ∙ ap (λ (t : Bool). map place front ++ map place (cond t (c ∷ []) [])) e ∙ ap (λ (ns : List ℕ). map place front ++ ns) (by_test b) where
      by_test : (t : Bool) → map (λ (x : ConvictedAt). x.place) (cond t (c ∷ []) []) ≡ cond t (c.place ∷ []) []
      by_test true = refl
      by_test false = refl

-- what a test said of a node
pub other_is : (listed seen : List ℕ) (node : ℕ) (tells b : Bool) → seen ≡ listed → tells ≡ list_any (λ n. n == node) seen → tells ≡ b → not (list_any (λ n. n == node) listed) ≡ not b
other_is listed seen node tells b same told is = ap not (ap (list_any (λ n. n == node)) (sym same) ∙ sym told ∙ is)

-- ---- the places of the records that pass a test

-- a place this many further on, whose record passes the test
record StandsFrom (test : Record → Bool) (n : ℕ) (J : List Record) (place : ℕ) : Type 0 where
  pub further : ℕ
  pub is : place ≡ n + further
  pub at : list_any test (option_to_list (slice_get J further)) ≡ true

from_where : (test : Record → Bool) (n : ℕ) (J : List Record) (place : ℕ) → IsIn place (records_where test n J) → StandsFrom test n J place
unfolding records_where
from_where test n [] place never = absurd never
from_where test n (r ∷ J) place on = elim (chosen_cases (test r) place n (records_where test (n + 1) J) on) [
  | inl here ↦ record { further = 0; is = omega (arith, here.1); at = sym (or_none (test r)) ∙ here.0 }
  | inr there ↦ let f = from_where test (n + 1) J place there in record { further = suc f.further; is = omega (arith, f.is); at = f.at }
]

in_where : (test : Record → Bool) (n : ℕ) (J : List Record) (further : ℕ) → list_any test (option_to_list (slice_get J further)) ≡ true → IsIn (n + further) (records_where test n J)
unfolding records_where
in_where test n [] further at = absurd cc
in_where test n (r ∷ J) zero at = chosen_front (test r) (n + 0) n (records_where test (n + 1) J) (or_none (test r) ∙ at) (omega arith)
in_where test n (r ∷ J) (suc k) at = chosen_behind (test r) (n + suc k) n (records_where test (n + 1) J) (subst (λ (m : ℕ). IsIn m (records_where test (n + 1) J)) (omega arith) (in_where test (n + 1) J k at))

where_rises : (test : Record → Bool) (n : ℕ) (J : List Record) → RisesByTest nat_lt (records_where test n J)
unfolding records_where
where_rises test n [] = tt
where_rises test n (r ∷ J) = by_test (test r) (where_rises test (n + 1) J) where
  behind : List ℕ
  behind = records_where test (n + 1) J

  by_test : (b : Bool) → RisesByTest nat_lt behind → RisesByTest nat_lt (cond b (n ∷ behind) behind)
  by_test true rest = (all_from (λ (m : ℕ). nat_lt n m ≡ true) behind (λ m on. let f = from_where test (n + 1) J m on in lt-ltb n m (omega (arith, f.is))), rest)
  by_test false rest = rest

-- ---- own vouchers

-- ids, and one more
pub found_more : (J : List Record) (ids : List (List ℕ)) (i : ℕ) (id : List ℕ) (old new : List ℕ) → i < length ids → id ≡ get_or ids i id → AreVoucherPlaces J (take i ids) old → AddsPlaces J id old new → AreVoucherPlaces J (take (i + 1) ids) new
found_more J ids i id old new low is before more = subst (λ (hs : List (List ℕ)). AreVoucherPlaces J hs new) (sym (take_next ids i id low is)) (record { all = all; only = only }) where
  all : (h : List ℕ) (place : ℕ) → IsIn h (take i ids ++ id ∷ []) → vouches_at J h place ≡ true → IsIn place new
  all h place on at = elim (in_parts h (take i ids) (id ∷ []) on) [
    | inl there ↦ more.kept place (before.all h place there at)
    | inr (inl here) ↦ more.all place (subst (λ (k : List ℕ). vouches_at J k place ≡ true) (sym here) at)
    | inr (inr never) ↦ absurd never
  ]

  only : (place : ℕ) → IsIn place new → (h : List ℕ) × (IsIn h (take i ids ++ id ∷ []) × (vouches_at J h place ≡ true))
  only place on = elim (more.only place on) [
    | inl there ↦ let h = before.only place there in (h.0, (in_left h.0 (take i ids) (id ∷ []) h.1.0, h.1.1))
    | inr at ↦ (id, (in_last (take i ids) id, at))
  ]

pub found_none : (J : List Record) (found : List ℕ) → found ≡ [] → AreVoucherPlaces J [] found
found_none J found none = record { all = λ id place never at. absurd never; only = λ place on. absurd (subst (λ (ps : List ℕ). IsIn place ps) none on) }

-- a voucher that names one of the ids is one that names this id
to_some : (J : List Record) (ids : List (List ℕ)) (id : List ℕ) (place : ℕ) → IsIn id ids → vouches_at J id place ≡ true → list_any (vouches_for ids) (option_to_list (slice_get J place)) ≡ true
to_some J ids id place on at =
    let r = passing_at (vouches id) J place at in
    let v = any_to (λ (w : Voucher). is_among id w.ids) (own_voucher_by r.0) r.1.1 in
    at_passing (vouches_for ids) J place r.0 r.1.0
    (any_from (λ (w : Voucher). list_any (λ i. is_among i ids) w.ids) v.0 (own_voucher_by r.0) v.1.0 (any_from (λ (i : List ℕ). is_among i ids) id v.0.ids (among_to id v.0.ids v.1.1) (among_from id ids on)))

from_some : (J : List Record) (ids : List (List ℕ)) (place : ℕ) → list_any (vouches_for ids) (option_to_list (slice_get J place)) ≡ true → (id : List ℕ) × (IsIn id ids × (vouches_at J id place ≡ true))
from_some J ids place at =
    let r = passing_at (vouches_for ids) J place at in
    let v = any_to (λ (w : Voucher). list_any (λ i. is_among i ids) w.ids) (own_voucher_by r.0) r.1.1 in
    let h = any_to (λ (i : List ℕ). is_among i ids) v.0.ids v.1.1 in
    (h.0, (among_to h.0 ids h.1.1, at_passing (vouches h.0) J place r.0 r.1.0 (any_from (λ (w : Voucher). is_among h.0 w.ids) v.0 (own_voucher_by r.0) v.1.0 (among_from h.0 v.0.ids h.1.0))))

-- ---- sorted, each once

less_below : (a b : ℕ) → nat_cmp a b ≡ Less → nat_lt a b ≡ true
less_below a b e = by_tests (nat_lt a b) (eqb a b) e where
  by_tests : (s t : Bool) → cond s Less (cond t Equal Greater) ≡ Less → s ≡ true
  by_tests true t is = refl
  by_tests false true is = absurd cc
  by_tests false false is = absurd cc

all_below : (n : ℕ) (ns : List ℕ) → AllByRecursion (λ m. nat_cmp n m ≡ Less) ns → AllByRecursion (λ m. nat_lt n m ≡ true) ns
all_below n [] all = tt
all_below n (m ∷ ns) all = (less_below n m all.0, all_below n ns all.1)

sorted_rises : (ns : List ℕ) → IsStrictlySortedBy nat_cmp ns → RisesByTest nat_lt ns
unfolding IsStrictlySortedBy
sorted_rises [] sorted = tt
sorted_rises (n ∷ ns) sorted = (all_below n ns sorted.0, sorted_rises ns sorted.1)

below_one_way : (a b : ℕ) → nat_lt a b ≡ true → nat_lt b a ≡ true → ⊥
below_one_way a b one two = let low = ltb-true a b one in let high = ltb-true b a two in omega (arith, low, high)

-- what was found, in order and each once, is the places of the records
pub places_are : (J : List Record) (ids : List (List ℕ)) (found sorted once : List ℕ) → AreVoucherPlaces J ids found → IsPermutation found sorted → IsSorted nat_cmp sorted → once ≡ dedup eqb sorted → once ≡ voucher_places J ids
places_are J ids found sorted once are permuted rises is =
    one_rising nat_lt once (voucher_places J ids) below_one_way (subst (λ (ns : List ℕ). RisesByTest nat_lt ns) (sym is) (sorted_rises (dedup eqb sorted) (sorted_from_strictly_increasing (dedup eqb sorted) (IsStrictlyIncreasing-dedup sorted rises))))
    (where_rises (vouches_for ids) 0 J) (record { to = to; back = back }) where
      to : (place : ℕ) → IsIn place once → IsIn place (voucher_places J ids)
      to place on =
          let inside : IsIn place sorted = from_contains place sorted (Contains-from_dedup eqb sorted place (to_contains place (dedup eqb sorted) (subst (λ (ns : List ℕ). IsIn place ns) is on))) in
          let h = are.only place (in_permuted place sorted found (IsPermutation-sym found sorted permuted) inside) in
          subst (λ (k : ℕ). IsIn k (voucher_places J ids)) (omega arith) (in_where (vouches_for ids) 0 J place (to_some J ids h.0 place h.1.0 h.1.1))

      back : (place : ℕ) → IsIn place (voucher_places J ids) → IsIn place once
      back place on =
          let f = from_where (vouches_for ids) 0 J place on in
          let same : f.further ≡ place = omega (arith, f.is) in
          let h = from_some J ids place (subst (λ (k : ℕ). list_any (vouches_for ids) (option_to_list (slice_get J k)) ≡ true) same f.at) in
          let inside : IsIn place sorted = in_permuted place found sorted permuted (are.all h.0 place h.1.0 h.1.1) in
          subst (λ (ns : List ℕ). IsIn place ns) (sym is) (from_contains place (dedup eqb sorted) (Contains-dedup_nat sorted place (to_contains place sorted inside)))
