-- Leaves inserted among rising ones: where one goes.
use Rattle.std.proofs.Common.{◌≡◌, ◌∙◌, ℕ, suc, ◌+◌, Bool, true, false, cond, List, [], ◌∷◌, Some, refl, sym, ap, arith}
use Rattle.std.specs.List.{prefix_len, insert}
use Rattle.std.proofs.lemmas.List.Folds.{length-prefix_len}
use Rattle.depot_model.specs.declared.hello.HelloLeaf.{HelloLeaf}
use Rattle.depot_model.specs.exchange.Hello.{hello_leaf_rises}
use Rattle.depot_gossip.specs.FarHellos.{put_leaf}
use Rattle.depot_gossip.specs.LeafPlaces.{is_new_at, leaf_place}

-- the place that is found follows a lower one, or is the first
place_behind : (l k : HelloLeaf) (ks : List HelloLeaf) → hello_leaf_rises (Some k) l ≡ true → leaf_place l (k ∷ ks) ≡ suc (leaf_place l ks)
place_behind l k ks low =
    let here = length-prefix_len (λ m. hello_leaf_rises (Some m) l) (k ∷ ks) in
    let rest = length-prefix_len (λ m. hello_leaf_rises (Some m) l) ks in
    here ∙ (ap (λ (b : Bool). cond b (1 + prefix_len (λ m. hello_leaf_rises (Some m) l) ks) 0) low ∙ omega (arith, rest))

place_front : (l k : HelloLeaf) (ks : List HelloLeaf) → hello_leaf_rises (Some k) l ≡ false → leaf_place l (k ∷ ks) ≡ 0
place_front l k ks high = length-prefix_len (λ m. hello_leaf_rises (Some m) l) (k ∷ ks) ∙ ap (λ (b : Bool). cond b (1 + prefix_len (λ m. hello_leaf_rises (Some m) l) ks) 0) high

-- where it is new at its place it is put there
pub leaf_put : (l : HelloLeaf) (ks : List HelloLeaf) → is_new_at l ks (leaf_place l ks) ≡ true → insert ks (leaf_place l ks) l ≡ put_leaf l ks
unfolding put_leaf
leaf_put l [] new = refl
leaf_put l (k ∷ ks) new = by_test (hello_leaf_rises (Some k) l) refl (leaf_put l ks) where
  by_test : (b : Bool) → hello_leaf_rises (Some k) l ≡ b → (is_new_at l ks (leaf_place l ks) ≡ true → insert ks (leaf_place l ks) l ≡ put_leaf l ks)
      → insert (k ∷ ks) (leaf_place l (k ∷ ks)) l ≡ cond b (k ∷ put_leaf l ks) (cond (hello_leaf_rises (Some l) k) (l ∷ k ∷ ks) (k ∷ ks))
  by_test true is rest =
      let at = place_behind l k ks is in
      ap (λ (n : ℕ). insert (k ∷ ks) n l) at ∙ ap (λ (xs : List HelloLeaf). k ∷ xs) (rest (sym (ap (λ (n : ℕ). is_new_at l (k ∷ ks) n) at) ∙ new))
  by_test false is rest =
      let at = place_front l k ks is in
      let over : hello_leaf_rises (Some l) k ≡ true = sym (ap (λ (n : ℕ). is_new_at l (k ∷ ks) n) at) ∙ new in
      ap (λ (n : ℕ). insert (k ∷ ks) n l) at ∙ sym (ap (λ (b : Bool). cond b (l ∷ k ∷ ks) (k ∷ ks)) over)

-- where it isn't, it is there
pub leaf_stays : (l : HelloLeaf) (ks : List HelloLeaf) → is_new_at l ks (leaf_place l ks) ≡ false → ks ≡ put_leaf l ks
unfolding put_leaf
leaf_stays l [] old = absurd cc
leaf_stays l (k ∷ ks) old = by_test (hello_leaf_rises (Some k) l) refl (leaf_stays l ks) where
  by_test : (b : Bool) → hello_leaf_rises (Some k) l ≡ b → (is_new_at l ks (leaf_place l ks) ≡ false → ks ≡ put_leaf l ks)
      → k ∷ ks ≡ cond b (k ∷ put_leaf l ks) (cond (hello_leaf_rises (Some l) k) (l ∷ k ∷ ks) (k ∷ ks))
  by_test true is rest = ap (λ (xs : List HelloLeaf). k ∷ xs) (rest (sym (ap (λ (n : ℕ). is_new_at l (k ∷ ks) n) (place_behind l k ks is)) ∙ old))
  by_test false is rest =
      let same : hello_leaf_rises (Some l) k ≡ false = sym (ap (λ (n : ℕ). is_new_at l (k ∷ ks) n) (place_front l k ks is)) ∙ old in
      sym (ap (λ (b : Bool). cond b (l ∷ k ∷ ks) (k ∷ ks)) same)

pub ruleset leaf_laws = (leaf_put, leaf_stays)
