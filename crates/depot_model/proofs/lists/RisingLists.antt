-- Lists that rise strictly in an order: two with the same members are one.
use Rattle.std.proofs.Common.{◌≡◌, List, [], ◌∷◌, Bool, true, refl, sym, subst, ◌∙◌, inl, inr}
use Rattle.std.specs.Ordering.{is_lt, ordering_reverse}
use Rattle.std.specs.declared.cmp.Ordering.{Ordering}
use Rattle.std.specs.declared.cmp.Ordering.TheVariants.{Less, Equal, Greater}
use Rattle.depot_base.specs.Pairs.{AllPairsByRecursion}
use Rattle.depot_model.specs.lists.Lists.{IsIn}
use Rattle.depot_model.proofs.lists.Members.{all_at}

-- each comes before all that come after it, by a test
abbrev pub RisesByTest : {X : Type 0} → (X → X → Bool) → List X → Type 0
RisesByTest before = AllPairsByRecursion (λ x y. before x y ≡ true)

-- two lists have the same members
pub record HaveSame {X : Type 0} (xs ys : List X) : Type 0 where
  pub to : (x : X) → IsIn x xs → IsIn x ys
  pub back : (x : X) → IsIn x ys → IsIn x xs

-- no two are each before the other
abbrev pub GoesOneWay : {X : Type 0} → (X → X → Bool) → Type 0
GoesOneWay {X} before = (x y : X) → before x y ≡ true → before y x ≡ true → ⊥

-- an ordering and its reverse aren't both less
pub less_one_way : (o p : Ordering) → o ≡ ordering_reverse p → is_lt p ≡ true → is_lt o ≡ true → ⊥
less_one_way o Less e one two = absurd cc
less_one_way o Equal e one two = absurd cc
less_one_way o Greater e one two = absurd cc

-- what follows the first isn't it
not_first : {X : Type 0} (before : X → X → Bool) (x : X) (xs : List X) → GoesOneWay before → RisesByTest before (x ∷ xs) → IsIn x xs → ⊥
not_first before x xs one_way rise on = let low = all_at (λ y. before x y ≡ true) xs x rise.0 on in one_way x x low low

-- the members after the first are those of the other list after its first
behind_first : {X : Type 0} (before : X → X → Bool) (x y : X) (xs ys : List X) → GoesOneWay before → RisesByTest before (x ∷ xs) → x ≡ y → ((z : X) → IsIn z (x ∷ xs) → IsIn z (y ∷ ys)) → (z : X) → IsIn z xs → IsIn z ys
behind_first before x y xs ys one_way rise heads to z on = elim (to z (inr on)) [
  | inl here ↦ absurd (not_first before x xs one_way rise (subst (λ (w : _). IsIn w xs) (sym (heads ∙ here)) on))
  | inr there ↦ there
]

-- two rising lists with the same members are one
pub one_rising : {X : Type 0} (before : X → X → Bool) (xs ys : List X) → GoesOneWay before → RisesByTest before xs → RisesByTest before ys → HaveSame xs ys → xs ≡ ys
one_rising before [] [] one_way rise_x rise_y same = refl
one_rising before [] (y ∷ ys) one_way rise_x rise_y same = absurd (same.back y (inl refl))
one_rising before (x ∷ xs) [] one_way rise_x rise_y same = absurd (same.to x (inl refl))
one_rising before (x ∷ xs) (y ∷ ys) one_way rise_x rise_y same =
    let heads : x ≡ y = elim (same.to x (inl refl)) [
      | inl here ↦ sym here
      | inr later ↦ elim (same.back y (inl refl)) [
        | inl here ↦ here
        | inr also ↦ absurd (one_way x y (all_at (λ z. before x z ≡ true) xs y rise_x.0 also) (all_at (λ z. before y z ≡ true) ys x rise_y.0 later))
      ]
    ] in
    let tails : xs ≡ ys = one_rising before xs ys one_way rise_x.1 rise_y.1 (record {
      to = behind_first before x y xs ys one_way rise_x heads same.to;
      back = behind_first before y x ys xs one_way rise_y (sym heads) same.back;
    }) in
    cc
