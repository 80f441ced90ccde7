-- Numbers in rising order, each once, and distinct members of a list, which are no more than it has.
use Rattle.std.proofs.Common.{◌≡◌, ℕ, ◌<◌, ◌≤◌, ltb, eqb, Bool, true, false, cond, List, [], ◌∷◌, ◌++◌, length, refl, sym, ap, subst, ◌∙◌, inl, inr, ◌⊎◌, arith, length-append}
use Rattle.std.proofs.lemmas.Bool.{ltb-true, ltb-false, eqb-false}
use Rattle.depot_base.specs.Pairs.{AllPairsByRecursion}
use Rattle.depot_model.specs.lists.Lists.{IsIn, AreApart}
use Rattle.depot_model.proofs.lists.Members.{in_left, in_right, in_parts, all_at, all_from}
use Rattle.depot_model.specs.worlds.Receipts.{put_number, numbers_rising}

-- ---- members

from_choice : (below same : Bool) (n m x : ℕ) (ms more : List ℕ) → IsIn x (cond below (n ∷ m ∷ ms) (cond same (m ∷ ms) (m ∷ more))) → (IsIn x more → (n ≡ x) ⊎ IsIn x ms) → (n ≡ x) ⊎ IsIn x (m ∷ ms)
from_choice true same n m x ms more on behind = on
from_choice false true n m x ms more on behind = inr on
from_choice false false n m x ms more (inl here) behind = inr (inl here)
from_choice false false n m x ms more (inr there) behind = elim (behind there) [ inl same ↦ inl same | inr old ↦ inr (inr old) ]

from_put_number : (n x : ℕ) (ms : List ℕ) → IsIn x (put_number n ms) → (n ≡ x) ⊎ IsIn x ms
unfolding put_number
from_put_number n x [] on = on
from_put_number n x (m ∷ ms) on = from_choice (ltb n m) (eqb n m) n m x ms (put_number n ms) on (from_put_number n x ms)

-- a number of the rising ones is one of the numbers
pub from_numbers : (x : ℕ) (ns : List ℕ) → IsIn x (numbers_rising ns) → IsIn x ns
unfolding numbers_rising
from_numbers x [] never = never
from_numbers x (n ∷ ns) on = elim (from_put_number n x (numbers_rising ns) on) [ inl here ↦ inl here | inr there ↦ inr (from_numbers x ns there) ]

-- ---- order

-- each is below all that come after it
abbrev pub Rise : List ℕ → Type 0
Rise = AllPairsByRecursion (λ n m. n < m)

put_rises : (n : ℕ) (ms : List ℕ) → Rise ms → Rise (put_number n ms)
unfolding put_number
put_rises n [] rise = (tt, tt)
put_rises n (m ∷ ms) rise = by_tests (ltb n m) refl (eqb n m) refl (put_rises n ms rise.1) where
  by_tests : (below : Bool) → ltb n m ≡ below → (same : Bool) → eqb n m ≡ same → Rise (put_number n ms) → Rise (cond below (n ∷ m ∷ ms) (cond same (m ∷ ms) (m ∷ put_number n ms)))
  by_tests true below same e rest =
      let less = ltb-true n m below in
      ((less, all_from (λ k. n < k) ms (λ k on. omega (arith, less, all_at (λ x. m < x) ms k rise.0 on))), rise)
  by_tests false below true e rest = rise
  by_tests false below false e rest =
      let other : n ≡ m → ⊥ = eqb-false n m e in
      let not_below = ltb-false n m below in (
        all_from (λ k. m < k) (put_number n ms) (λ k on. elim (from_put_number n k ms on) [
          | inl here ↦ subst (λ (x : ℕ). m < x) here (above n m not_below other)
          | inr there ↦ all_at (λ x. m < x) ms k rise.0 there
        ]),
        rest,
      )
    where
      above : (n m : ℕ) → m ≤ n → (n ≡ m → ⊥) → m < n
      above n m le other = omega (arith, le, other)

-- the numbers rise
pub numbers_rise : (ns : List ℕ) → Rise (numbers_rising ns)
unfolding numbers_rising
numbers_rise [] = tt
numbers_rise (n ∷ ns) = put_rises n (numbers_rising ns) (numbers_rise ns)

-- so none occurs twice
pub rising_apart : (ns : List ℕ) → Rise ns → AreApart ns
rising_apart [] rise = tt
rising_apart (n ∷ ns) rise = (λ on. itself n (all_at (λ m. n < m) ns n rise.0 on), rising_apart ns rise.1) where
  itself : (n : ℕ) → n < n → ⊥
  itself n less = omega (arith, less)

-- ---- distinct members

-- the parts of a list around one of it
record IsCut {X : Type 0} (x : X) (ys : List X) : Type 0 where
  pub front : List X
  pub behind : List X
  pub parts : ys ≡ front ++ x ∷ behind

cut : {X : Type 0} (x : X) (ys : List X) → IsIn x ys → IsCut x ys
cut x [] never = absurd never
cut x (y ∷ ys) (inl here) = record { front = []; behind = ys; parts = ap (λ (z : _). z ∷ ys) here }
cut x (y ∷ ys) (inr there) = let c = cut x ys there in record { front = y ∷ c.front; behind = c.behind; parts = ap (λ (zs : List _). y ∷ zs) c.parts }

-- another one stays where one is removed
stays : {X : Type 0} (x z : X) (front behind : List X) → IsIn z (front ++ x ∷ behind) → (x ≡ z → ⊥) → IsIn z (front ++ behind)
stays x z front behind on other = elim (in_parts z front (x ∷ behind) on) [
  | inl before ↦ in_left z front behind before
  | inr rest ↦ elim rest [ inl here ↦ absurd (other here) | inr after ↦ in_right z front behind after ]
]

-- distinct members of a list are no more than it has
pub no_more : {X : Type 0} (xs ys : List X) → AreApart xs → ((x : X) → IsIn x xs → IsIn x ys) → length xs ≤ length ys
no_more [] ys apart each = omega arith
no_more (x ∷ xs) ys apart each =
    let c = cut x ys (each x (inl refl)) in
    let rest = no_more xs (c.front ++ c.behind) apart.1 (λ z on. stays x z c.front c.behind (subst (λ (zs : List _). IsIn z zs) c.parts (each z (inr on))) (λ same. apart.0 (subst (λ (w : _). IsIn w xs) (sym same) on))) in
    let long = ap length c.parts ∙ length-append c.front (x ∷ c.behind) in
    let short = length-append c.front c.behind in
    omega (arith, rest, long, short)
