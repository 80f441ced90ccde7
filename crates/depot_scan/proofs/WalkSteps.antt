-- Steps of the walk from the newest body to the oldest.
use Rattle.std.proofs.Common.{◌≡◌, ℕ, List, [], ◌∷◌, ◌++◌, Bool, true, false, not, ◌&&◌, reverse, refl, sym, ap, ◌∙◌}
use Rattle.std.proofs.lemmas.List.{append_assoc, append-nil, reverse-append, map_push}
use Rattle.depot_base.specs.declared.update.Update.{Update}
use Rattle.depot_model.specs.texts.Texts.{id_of_update}
use Rattle.depot_scan.specs.Bodies.{updates}
use Rattle.depot_model.specs.texts.Contents.{writes as writes_key}
use Rattle.depot_scan.specs.Covered.{covers, uncovered, Covers}
use Rattle.depot_scan.specs.declared.body.Body.{Body}

-- these bodies are left, and the others were visited
pub record Walked (key : List ℕ) (bodies left : List Body) (covered : List ℕ → Bool) (found : List Body) : Type 0 where
  pub done : List Body
  pub parts : bodies ≡ left ++ done
  pub marks : (h : List ℕ) → covered h ≡ covers key (updates done) h
  pub all : updates found ≡ reverse (uncovered key (updates done))

pub walked_none : (key : List ℕ) (bodies : List Body) (covered : List ℕ → Bool) → ((h : List ℕ) → covered h ≡ false) → Walked key bodies bodies covered []
unfolding covers uncovered
walked_none key bodies covered none = record { done = []; parts = sym (append-nil bodies); marks = none; all = refl }

covered_more : (key : List ℕ) (b : Body) (done : List Body) (old new : List ℕ → Bool) → ((h : List ℕ) → old h ≡ covers key (updates done) h) → Covers key b.update old new → (h : List ℕ) → new h ≡ covers key (updates (b ∷ done)) h
unfolding covers
covered_more key b done old new marks covered h = covered h ∙ rw (marks h, marks (id_of_update b.update)) refl

-- what the visit says of the body
said : (key : List ℕ) (b : Body) (done : List Body) (old : List ℕ → Bool) → ((h : List ℕ) → old h ≡ covers key (updates done) h) → (writes_key key b.update && not (old b.id)) ≡ (writes_key key b.update && not (covers key (updates done) (id_of_update b.update)))
said key b done old marks = ap (λ (t : Bool). writes_key key b.update && not t) (ap old b.is_id ∙ marks (id_of_update b.update))

parts_more : (bodies left before done : List Body) (b : Body) → bodies ≡ left ++ done → left ≡ before ++ b ∷ [] → bodies ≡ before ++ b ∷ done
parts_more bodies left before done b parts is = parts ∙ (ap (λ (bs : List Body). bs ++ done) is ∙ append_assoc before (b ∷ []) done)

-- a body that isn't a latest write
pub walked_on : (key : List ℕ) (bodies left before found : List Body) (b : Body) (old new : List ℕ → Bool) → Walked key bodies left old found → left ≡ before ++ b ∷ [] → (writes_key key b.update && not (old b.id)) ≡ false → Covers key b.update old new → Walked key bodies before new found
unfolding uncovered
walked_on key bodies left before found b old new w is latest covered =
    let no = sym (said key b w.done old w.marks) ∙ latest in
    let step : uncovered key (updates (b ∷ w.done)) ≡ uncovered key (updates w.done) = rw no refl in
    record {
      done = b ∷ w.done;
      parts = parts_more bodies left before w.done b w.parts is;
      marks = covered_more key b w.done old new w.marks covered;
      all = w.all ∙ ap reverse (sym step);
    }

-- a latest write
pub walked_found : (key : List ℕ) (bodies left before found after : List Body) (b : Body) (old new : List ℕ → Bool) → Walked key bodies left old found → left ≡ before ++ b ∷ [] → (writes_key key b.update && not (old b.id)) ≡ true → Covers key b.update old new → after ≡ found ++ b ∷ [] → Walked key bodies before new after
unfolding uncovered
walked_found key bodies left before found after b old new w is latest covered pushed =
    let yes = sym (said key b w.done old w.marks) ∙ latest in
    let step : uncovered key (updates (b ∷ w.done)) ≡ b.update ∷ uncovered key (updates w.done) = rw yes refl in
    let us : updates after ≡ updates found ++ b.update ∷ [] = ap updates pushed ∙ map_push (λ (x : Body). x.update) found b in
    record {
      done = b ∷ w.done;
      parts = parts_more bodies left before w.done b w.parts is;
      marks = covered_more key b w.done old new w.marks covered;
      all = us ∙ (ap (λ (vs : List Update). vs ++ b.update ∷ []) w.all ∙ (sym (reverse-append (b.update ∷ []) (uncovered key (updates w.done))) ∙ ap reverse (sym step)));
    }

-- no body is left
pub walked_all : (key : List ℕ) (bodies left : List Body) (covered : List ℕ → Bool) (found : List Body) → Walked key bodies left covered found → left ≡ [] → updates found ≡ reverse (uncovered key (updates bodies))
walked_all key bodies left covered found w none = w.all ∙ ap (λ (bs : List Body). reverse (uncovered key (updates bs))) (sym (w.parts ∙ ap (λ (bs : List Body). bs ++ w.done) none))
