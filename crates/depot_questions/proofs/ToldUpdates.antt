-- Questions about updates: whether one has an id, and pages of them.
use Rattle.std.proofs.Common.{◌≡◌, ℕ, zero, suc, ◌+◌, ◌-◌, ◌<◌, ◌≤◌, Bool, true, false, cond, not, ◌||◌, Option, None, is_some, List, [], ◌∷◌, ◌++◌, length, length-drop, map, take, drop, nat_lt, Some, refl, sym, ap, ◌∙◌, arith, inl, inr, ◌⊎◌}
use Rattle.std.specs.List.{list_any, position_or_len}
use Rattle.std.specs.Prelude.{min, slice_get}
use Rattle.std.specs.Str.{bytes_eq}
use Rattle.std.proofs.lemmas.Bool.{lt-ltb, ltb-true, ltb-false}
use Rattle.std.proofs.lemmas.List.{map-append, take_all}
use Rattle.depot_base.specs.declared.update.Update.{Update}
use Rattle.depot_base.proofs.GeneralLaws.{same_test}
use Rattle.depot_model.specs.lists.Items.{place_of_id}
use Rattle.depot_model.specs.journals.Journal.{has_id}
use Rattle.depot_model.specs.texts.Texts.{id_of_update}
use Rattle.depot_questions.specs.Answers.{update_keys, update_page}
use Rattle.depot_questions.specs.declared.question_answer.UpdateKeys.{UpdateKeys}

-- one more of a list
pub next_of : {X : Type 0} (xs : List X) (i : ℕ) (x : X) → slice_get xs i ≡ Some x → take (suc i) xs ≡ take i xs ++ x ∷ []
next_of [] i x at = absurd cc
next_of (y ∷ ys) zero x at = let p : y ≡ x = cc in ap (λ (z : _). z ∷ []) p
next_of (y ∷ ys) (suc i) x at = ap (λ (zs : List _). y ∷ zs) (next_of ys i x at)

-- what follows so many
behind : {X : Type 0} (xs : List X) (n i : ℕ) → slice_get (drop n xs) i ≡ slice_get xs (n + i)
behind [] zero i = refl
behind [] (suc n) i = refl
behind (x ∷ xs) zero i = let same : i ≡ 0 + i = omega arith in ap (slice_get (x ∷ xs)) same
behind (x ∷ xs) (suc n) i = let more : suc (n + i) ≡ suc n + i = omega arith in behind xs n i ∙ ap (slice_get (x ∷ xs)) more

-- one update more of a page
pub one_told : (us : List Update) (from item : ℕ) (u : Update) (old new : List UpdateKeys) → from ≤ item → slice_get us item ≡ Some u → old ≡ map update_keys (take (item - from) (drop from us)) → new ≡ old ++ update_keys u ∷ [] → new ≡ map update_keys (take (item + 1 - from) (drop from us))
one_told us from item u old new le at so_far more =
    let place : from + (item - from) ≡ item = omega (arith, le) in
    let next : item + 1 - from ≡ suc (item - from) = omega (arith, le) in
    let there = behind us from (item - from) ∙ ap (slice_get us) place ∙ at in
    more ∙ ap (λ (x : List UpdateKeys). x ++ update_keys u ∷ []) so_far ∙ sym (map-append update_keys (take (item - from) (drop from us)) (u ∷ []))
    ∙ sym (ap (map update_keys) (ap (λ (n : ℕ). take n (drop from us)) next ∙ next_of (drop from us) (item - from) u there))

-- none yet
pub none_told : (us : List Update) (from : ℕ) (told : List UpdateKeys) → told ≡ [] → told ≡ map update_keys (take (from - from) (drop from us))
none_told us from told none = let no : from - from ≡ 0 = omega arith in none ∙ sym (ap (λ (n : ℕ). map update_keys (take n (drop from us))) no)

-- as many of a list, or both times all
as_many : {X : Type 0} (xs : List X) (m n : ℕ) → (m ≡ n) ⊎ ((length xs ≤ m) × (length xs ≤ n)) → take m xs ≡ take n xs
as_many xs m n which = elim which [
  | inl same ↦ ap (λ (k : ℕ). take k xs) same
  | inr all ↦ take_all m xs all.0 ∙ sym (take_all n xs all.1)
]

pub same_below : (a b c d : ℕ) → (a < b → c < d) → (c < d → a < b) → nat_lt a b ≡ nat_lt c d
same_below a b c d to back = same_test (nat_lt a b) (nat_lt c d) (λ is. lt-ltb c d (to (ltb-true a b is))) (λ is. lt-ltb a b (back (ltb-true c d is)))

-- ---- whether one has an id

within : {X : Type 0} (test : X → Bool) (xs : List X) → nat_lt (position_or_len test xs) (length xs) ≡ list_any test xs
within test [] = refl
within test (x ∷ xs) = by_test (test x) (within test xs) where
  by_test : (b : Bool) → nat_lt (position_or_len test xs) (length xs) ≡ list_any test xs → nat_lt (cond (not b) (1 + position_or_len test xs) 0) (suc (length xs)) ≡ (b || list_any test xs)
  by_test true rest = lt-ltb 0 (suc (length xs)) (omega arith)
  by_test false rest = same_below (1 + position_or_len test xs) (suc (length xs)) (position_or_len test xs) (length xs) (λ lt. omega (arith, lt)) (λ lt. omega (arith, lt)) ∙ rest

pub is_there : (us : List Update) (h : List ℕ) (o : Option ℕ) (told : Bool) → o ≡ place_of_id h us → told ≡ is_some o → told ≡ has_id us h
unfolding has_id
is_there us h o told place is =
    let test : Update → Bool = λ t. bytes_eq (id_of_update t) h in
    is ∙ ap is_some place ∙ some_there (nat_lt (position_or_len test us) (length us)) (position_or_len test us) ∙ within test us where
      some_there : (b : Bool) (n : ℕ) → is_some (cond b (Some n) None) ≡ b
      some_there true n = refl
      some_there false n = refl

-- ---- a page

-- the last of a page
ends : (count from last item : ℕ) → from < 4294967296 → count < 4294967296 → last ≡ min (min (from + 256) 4294967295) count → from ≤ item → (from ≤ last → item ≤ last) → last ≤ item → (item - from ≡ 256) ⊎ ((count - from ≤ item - from) × (count - from ≤ 256))
ends count from last item low few is le to past = by_sum (nat_lt (from + 256) count) refl where
  by_sum : (b : Bool) → nat_lt (from + 256) count ≡ b → (item - from ≡ 256) ⊎ ((count - from ≤ item - from) × (count - from ≤ 256))
  by_sum true lt = inl (omega (arith, low, few, is, le, to, past, ltb-true _ _ lt))
  by_sum false ge = inr (omega (arith, low, few, is, le, to, past, ltb-false _ _ ge), omega (arith, ltb-false _ _ ge))

pub page_told : (us : List Update) (from last item count : ℕ) (told : List UpdateKeys) → from < 4294967296 → count < 4294967296 → count ≡ length us → last ≡ min (min (from + 256) 4294967295) count → from ≤ item → (from ≤ last → item ≤ last) → last ≤ item
    → told ≡ map update_keys (take (item - from) (drop from us)) → record { updates = told; more = nat_lt last count } ≡ update_page us from
page_told us from last item count told low few many is le to past so_far =
    let cut : take (item - from) (drop from us) ≡ take 256 (drop from us) =
    as_many (drop from us) (item - from) 256 (elim (ends count from last item low few is le to past) [ inl same ↦ inl same | inr all ↦ inr (omega (arith, length-drop from us, many, all.0), omega (arith, length-drop from us, many, all.1)) ]) in
    let more : nat_lt last count ≡ nat_lt (from + 256) (length us) = same_below last count (from + 256) (length us) (λ lt. omega (arith, low, few, many, is, lt)) (λ lt. omega (arith, low, few, many, is, lt)) in
    ap (λ (x : List UpdateKeys). record { updates = x; more = nat_lt last count }) (so_far ∙ ap (map update_keys) cut) ∙ ap (λ (b : Bool). record { updates = map update_keys (take 256 (drop from us)); more = b }) more
