-- A node that is appended to others.
use Rattle.std.proofs.Common.{◌≡◌, ℕ, Result, Ok, Err, IsOk, IfOk, rules, List, [], ◌∷◌, ◌++◌, Bool, true, false, cond, eqb, ◌||◌, refl, ap, ◌∙◌}
use Rattle.std.specs.List.{list_any}
use Rattle.indexmap.specs.IndexSet.{insert_key}
use Rattle.depot_model.specs.lists.Lists.{is_one_of}
use Rattle.depot_base.proofs.GeneralLaws.{eqb_comm}

turned : (ks : List ℕ) (node : ℕ) → list_any (eqb node) ks ≡ is_one_of node ks
turned [] node = refl
turned (k ∷ ks) node = let one : eqb node k ≡ eqb k node = eqb_comm node k in ap (λ (b : Bool). b || list_any (eqb node) ks) one ∙ ap (λ (b : Bool). eqb k node || b) (turned ks node)

-- a node that isn't there goes last
new_node : (ks : List ℕ) (node : ℕ) (b : Bool) → list_any (eqb node) ks ≡ b → is_one_of node ks ≡ false → cond b ks (ks ++ node ∷ []) ≡ ks ++ node ∷ []
new_node ks node true e new = absurd (let same : list_any (eqb node) ks ≡ is_one_of node ks = turned ks node in cc)
new_node ks node false e new = refl

pub node_last : (ks : List ℕ) (node : ℕ) (new : List ℕ) → is_one_of node ks ≡ false → new ≡ insert_key eqb ks node → new ≡ ks ++ node ∷ []
node_last ks node new absent e = e ∙ new_node ks node (list_any (eqb node) ks) refl absent

-- what is said of a good answer holds where the answer is good
pub where_ok : {A E : Type 0} (P : Type 0) (r : Result A E) → IsOk r → IfOk r (λ _. P) → P
where_ok P (Ok x) ok h = h
where_ok P (Err e) ok h = absurd (search rules)
