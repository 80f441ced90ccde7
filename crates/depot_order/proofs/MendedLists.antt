-- The latest of some items, with one item more.
use Rattle.std.proofs.Common.{◌≡◌, ℕ, zero, suc, ◌<◌, ◌⊎◌, List, [], ◌∷◌, ◌++◌, length, take, drop, get_or, refl, sym, ◌∙◌, subst, arith, inl, inr, Contains}
use Rattle.std.specs.List.{AllByRecursion}
use Rattle.depot_order.specs.LatestItems.{IsLatestOf, AreLatestOf, IsNewest, AreKept, IsPlaceFor, IsMended}
use Rattle.depot_base.specs.Membership.{IsIn}
use Rattle.depot_base.specs.Pairs.{AllPairsByRecursion}
use Rattle.depot_base.proofs.MembershipLaws.{from_contains, to_contains, in_pushed, in_left, in_last, all_at}
use Rattle.depot_order.proofs.ItemLists.{kept_in, in_kept, kept_rises, in_put, item_put, put_in, put_rises, behind_rises}

-- what is asked of an order of items where one more comes
pub record Orders (precedes listed : ℕ → ℕ → Type 0) (item : ℕ) (items : List ℕ) : Type 0 where
  pub no_self : precedes item item → ⊥
  pub all : (a : ℕ) → IsIn a items → (a ≡ item) ⊎ (listed a item ⊎ listed item a)
  pub on : (a b : ℕ) → IsIn a items → IsIn b items → listed item a → listed a b → listed item b

-- the fact by which items are kept
abbrev pub IsApart : (ℕ → ℕ → Type 0) → ℕ → ℕ → Type 0
IsApart precedes item a = precedes a item → ⊥

-- an item of the list that isn't listed after the new one is listed before it
listed_before : (precedes listed : ℕ → ℕ → Type 0) (item a : ℕ) (items : List ℕ) → Orders precedes listed item items → IsIn a items → (a ≡ item → ⊥) → (listed item a → ⊥) → listed a item
listed_before precedes listed item a items o on other never = elim (o.all a on) [
  | inl same ↦ absurd (other same)
  | inr either ↦ elim either [ inl before ↦ before | inr behind ↦ absurd (never behind) ]
]

get_in : (xs : List ℕ) (k : ℕ) → k < length xs → IsIn (get_or xs k 0) xs
get_in [] k low = absurd (omega (arith, low))
get_in (x ∷ xs) zero low = inl refl
get_in (x ∷ xs) (suc k) low = inr (get_in xs k (omega (arith, low)))

-- the updated list rises
mended_rises : (precedes listed : ℕ → ℕ → Type 0) (item : ℕ) (old kept : List ℕ) (place : ℕ) → Orders precedes listed item old → ((a : ℕ) → IsIn a old → a ≡ item → ⊥) → AreKept (IsApart precedes item) old kept → IsPlaceFor listed item kept place → AllPairsByRecursion listed old → AllPairsByRecursion listed (take place kept ++ item ∷ drop place kept)
mended_rises precedes listed item old kept place o other k p rises =
    let from : (a : ℕ) → IsIn a kept → IsIn a old = λ a on. (in_kept (IsApart precedes item) old kept a k on).0 in
    let up = kept_rises (IsApart precedes item) listed old kept k rises in
    put_rises listed kept place item up p.inside
    (λ j lt.
    let on : IsIn (get_or kept j 0) old = from (get_or kept j 0) (get_in kept j (omega (arith, lt, p.inside))) in
    listed_before precedes listed item (get_or kept j 0) old o on (other (get_or kept j 0) on) (p.behind j lt))
    (behind_rises listed kept place item up p.first (λ y z y_in z_in. o.on y z (from y y_in) (from z z_in)))

-- where a list has the latest of some items, the updated one has the latest of these and of the new one
pub latest_mended : (precedes listed : ℕ → ℕ → Type 0) (item : ℕ) (among old new : List ℕ) → Orders precedes listed item old → IsMended precedes listed item old new → IsNewest precedes among item → AreLatestOf precedes listed among old → AreLatestOf precedes listed (among ++ item ∷ []) new
latest_mended precedes listed item among old new o (kept, (place, (k, (is_place, is)))) newest latest =
    let made : List ℕ = take place kept ++ item ∷ drop place kept in
    let P = IsApart precedes item in
    let known : (a : ℕ) → IsIn a old → Contains among a = λ a on. (latest.only a (to_contains a old on)).0 in
    subst (AreLatestOf precedes listed (among ++ item ∷ [])) (sym is) (record {
      all = λ a last. to_contains a made (elim (in_pushed a among item (from_contains a (among ++ item ∷ []) last.0)) [
        | inl on ↦
            let still : IsLatestOf precedes among a = (to_contains a among on, λ b b_in. last.1 b (to_contains b (among ++ item ∷ []) (in_left b among (item ∷ []) (from_contains b among b_in)))) in
            let apart : P a = last.1 item (to_contains item (among ++ item ∷ []) (in_last among item)) in
            in_put kept place item a (kept_in P old kept a k (from_contains a old (latest.all a still)) apart)
        | inr here ↦ subst (λ (b : ℕ). IsIn b made) here (item_put kept place item)
      ]);
      only = λ a on. elim (put_in kept place item a (from_contains a made on)) [
        | inl in_k ↦
            let r = in_kept P old kept a k in_k in
            let was = latest.only a (to_contains a old r.0) in (
              to_contains a (among ++ item ∷ []) (in_left a among (item ∷ []) (from_contains a among was.0)),
              λ b b_in p. elim (in_pushed b among item (from_contains b (among ++ item ∷ []) b_in)) [
                | inl old_b ↦ was.1 b (to_contains b among old_b) p
                | inr here ↦ r.1 (subst (precedes a) (sym here) p)
              ],
            )
        | inr here ↦ (
          subst (Contains (among ++ item ∷ [])) here (to_contains item (among ++ item ∷ []) (in_last among item)),
          λ b b_in p. let q : precedes item b = subst (λ (c : ℕ). precedes c b) (sym here) p in elim (in_pushed b among item (from_contains b (among ++ item ∷ []) b_in)) [
            | inl old_b ↦ (newest b (to_contains b among old_b)).1 q
            | inr same ↦ o.no_self (subst (precedes item) (sym same) q)
          ],
        )
      ];
      rising = mended_rises precedes listed item old kept place o (λ a on. (newest a (known a on)).0) k is_place latest.rising;
    })

-- the latest of some items are the same in orders that agree on these items
pub latest_agree : (precedes listed precedes' listed' : ℕ → ℕ → Type 0) (among latest : List ℕ) → ((a b : ℕ) → Contains among a → Contains among b → (precedes a b → precedes' a b) × (precedes' a b → precedes a b))
    → ((a b : ℕ) → Contains among a → Contains among b → listed a b → listed' a b) → AreLatestOf precedes listed among latest → AreLatestOf precedes' listed' among latest
latest_agree precedes listed precedes' listed' among latest same as_listed l = record {
  all = λ a is. l.all a (is.0, λ b on p. is.1 b on ((same a b is.0 on).0 p));
  only = λ a on. let was = l.only a on in (was.0, λ b b_in p. was.1 b b_in ((same a b was.0 b_in).1 p));
  rising = rises_in listed listed' latest (λ a b a_in b_in. as_listed a b (l.only a (to_contains a latest a_in)).0 (l.only b (to_contains b latest b_in)).0) l.rising;
}
  where
    all_in : (P Q : ℕ → Type 0) (xs : List ℕ) → ((x : ℕ) → IsIn x xs → P x → Q x) → AllByRecursion P xs → AllByRecursion Q xs
    all_in P Q [] from all = tt
    all_in P Q (x ∷ xs) from all = (from x (inl refl) all.0, all_in P Q xs (λ y on. from y (inr on)) all.1)

    rises_in : (listed listed' : ℕ → ℕ → Type 0) (xs : List ℕ) → ((a b : ℕ) → IsIn a xs → IsIn b xs → listed a b → listed' a b) → AllPairsByRecursion listed xs → AllPairsByRecursion listed' xs
    rises_in listed listed' [] from rises = tt
    rises_in listed listed' (x ∷ xs) from rises = (all_in (listed x) (listed' x) xs (λ y on. from x y (inl refl) (inr on)) rises.0, rises_in listed listed' xs (λ a b a_in b_in. from a b (inr a_in) (inr b_in)) rises.1)

-- ---- the latest items are one list

no_other_first : (listed : ℕ → ℕ → Type 0) (x y : ℕ) (xs ys : List ℕ) → (listed x x → ⊥) → (listed x y → listed y x → listed x x) → AllByRecursion (listed x) xs → AllByRecursion (listed y) ys → IsIn x (y ∷ ys) → IsIn y (x ∷ xs) → y ≡ x
no_other_first listed x y xs ys no_self on all_x all_y (inl here) y_in = here
no_other_first listed x y xs ys no_self on all_x all_y (inr later) (inl here) = sym here
no_other_first listed x y xs ys no_self on all_x all_y (inr later) (inr also) = absurd (no_self (on (all_at (listed x) xs y all_x also) (all_at (listed y) ys x all_y later)))

-- after the same first item come the same items
same_behind : (listed : ℕ → ℕ → Type 0) (x y : ℕ) (xs ys : List ℕ) → y ≡ x → (listed x x → ⊥) → AllByRecursion (listed x) xs → ((a : ℕ) → IsIn a (x ∷ xs) → IsIn a (y ∷ ys)) → (a : ℕ) → IsIn a xs → IsIn a ys
same_behind listed x y xs ys same no_self all from a on = elim (from a (inr on)) [
  | inl here ↦ absurd (no_self (subst (listed x) (sym here ∙ same) (all_at (listed x) xs a all on)))
  | inr there ↦ there
]

-- two rising lists of the same items are one
pub rising_one : (listed : ℕ → ℕ → Type 0) (xs ys : List ℕ) → ((a : ℕ) → IsIn a xs → listed a a → ⊥) → ((a b : ℕ) → IsIn a xs → IsIn b xs → listed a b → listed b a → listed a a) → AllPairsByRecursion listed xs → AllPairsByRecursion listed ys
    → ((a : ℕ) → IsIn a xs → IsIn a ys) → ((a : ℕ) → IsIn a ys → IsIn a xs) → xs ≡ ys
rising_one listed [] [] no_self on up_x up_y to from = refl
rising_one listed [] (y ∷ ys) no_self on up_x up_y to from = absurd (from y (inl refl))
rising_one listed (x ∷ xs) [] no_self on up_x up_y to from = absurd (to x (inl refl))
rising_one listed (x ∷ xs) (y ∷ ys) no_self on up_x up_y to from =
    let never = no_self x (inl refl) in
    let y_in = from y (inl refl) in
    let same : y ≡ x = no_other_first listed x y xs ys never (on x y (inl refl) y_in) up_x.0 up_y.0 (to x (inl refl)) y_in in
    let never_y : listed y y → ⊥ = no_self y y_in in
    let rest : xs ≡ ys = rising_one listed xs ys (λ a a_in. no_self a (inr a_in)) (λ a b a_in b_in. on a b (inr a_in) (inr b_in)) up_x.1 up_y.1 (same_behind listed x y xs ys same never up_x.0 to) (same_behind listed y x ys xs (sym same) never_y up_y.0 from) in
    cc

pub latest_one : (precedes listed : ℕ → ℕ → Type 0) (among xs ys : List ℕ) → ((a : ℕ) → IsIn a among → listed a a → ⊥) → ((a b : ℕ) → IsIn a among → IsIn b among → listed a b → listed b a → listed a a) → AreLatestOf precedes listed among xs → AreLatestOf precedes listed among ys → xs ≡ ys
latest_one precedes listed among xs ys no_self on first second =
    let known : (a : ℕ) → IsIn a xs → IsIn a among = λ a a_in. from_contains a among (first.only a (to_contains a xs a_in)).0 in
    rising_one listed xs ys (λ a a_in. no_self a (known a a_in)) (λ a b a_in b_in. on a b (known a a_in) (known b b_in)) first.rising second.rising
    (λ a a_in. from_contains a ys (second.all a (first.only a (to_contains a xs a_in))))
    (λ a a_in. from_contains a xs (first.all a (second.only a (to_contains a ys a_in))))
