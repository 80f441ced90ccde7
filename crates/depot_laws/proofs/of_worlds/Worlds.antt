-- The nodes of a world, and its writes: an id is that of one write.
use Rattle.std.proofs.Common.{◌≡◌, ℕ, List, [], ◌∷◌, ◌++◌, map, take, drop, refl, sym, ap, subst, ◌∙◌, inl, inr}
use Rattle.std.specs.List.{flat_map}
use Rattle.std.proofs.lemmas.List.{take-append-drop}
use Rattle.depot_base.specs.declared.update.Update.{Update}
use Rattle.depot_base.specs.declared.record.Record.{Record}
use Rattle.depot_base.proofs.Decoding.{in_one_way}
use Rattle.depot_model.specs.lists.Lists.{IsIn}
use Rattle.depot_model.specs.texts.Texts.{update_body, IsUpdate, text_of_update, id_of_update}
use Rattle.depot_model.specs.lists.Items.{AreDistinct}
use Rattle.depot_model.specs.journals.Journal.{accepted, value_by}
use Rattle.depot_model.specs.journals.Lawful.{IsLawful}
use Rattle.depot_model.proofs.lists.Members.{in_left, in_right, in_map, all_at}
use Rattle.depot_model.proofs.of_texts.TextLaws.{update_body_lawful}
use Rattle.depot_model.specs.texts.Contents.{hollow_texts}
use Rattle.depot_model.specs.worlds.World.{Correct, World, setting_of, IsWorld, proofs_of, writes_of, hashed_texts, IsCollisionFree}
use Rattle.depot_base.specs.declared.proof.Proof.{Proof}
use Rattle.depot_laws.specs.OneText.{world_values, HaveOneText}
use Rattle.depot_laws.proofs.lists.Splits.{IsGiven, given_by, flat_left, flat_gives, lawful_front}
use Rattle.depot_laws.proofs.own_updates.OwnTexts.{accepted_fit}

-- ---- readings of beginnings

-- what a beginning gives is given
pub taken_in : {R X : Type 0} (f : R → List X) (x : X) (n : ℕ) (rs : List R) → IsIn x (flat_map f (take n rs)) → IsIn x (flat_map f rs)
taken_in f x n rs on = subst (λ (ss : List _). IsIn x (flat_map f ss)) (take-append-drop n rs) (flat_left f x (take n rs) (drop n rs) on)

-- one of both halves of a list
pub in_split : {X : Type 0} (before : List X) (x : X) (after xs : List X) → xs ≡ before ++ x ∷ after → IsIn x xs
in_split before x after xs is = subst (λ (ys : List _). IsIn x ys) (sym is) (in_right x before (x ∷ after) (inl refl))

-- the one that gives is one of the list
pub giver_in : {R X : Type 0} (f : R → List X) (x : X) (rs : List R) (g : IsGiven f x rs) → IsIn g.by rs
giver_in f x rs g = in_split g.before g.by g.after rs g.is

-- ---- nodes

-- a number is that of one node
one_numbered : (cs : List Correct) (c d : Correct) → AreDistinct (map (λ c. c.node) cs) → IsIn c cs → IsIn d cs → c.node ≡ d.node → c ≡ d
one_numbered [] c d apart never d_on e = absurd never
one_numbered (x ∷ xs) c d apart (inl one) (inl two) e = sym one ∙ two
one_numbered (x ∷ xs) c d apart (inl one) (inr two) e = absurd (all_at (λ n. n ≡ x.node → ⊥) (map (λ (c : Correct). c.node) xs) d.node apart.0 (in_map (λ (c : Correct). c.node) d xs two) (sym e ∙ ap (λ (y : Correct). y.node) (sym one)))
one_numbered (x ∷ xs) c d apart (inr one) (inl two) e = absurd (all_at (λ n. n ≡ x.node → ⊥) (map (λ (c : Correct). c.node) xs) c.node apart.0 (in_map (λ (c : Correct). c.node) c xs one) (e ∙ ap (λ (y : Correct). y.node) (sym two)))
one_numbered (x ∷ xs) c d apart (inr one) (inr two) e = one_numbered xs c d apart.1 one two e

-- what a node accepted is a write of the world
pub write_from : (W : World) (c : Correct) (u : Update) → IsIn c W.nodes → IsIn u (accepted c.journal) → IsIn u (writes_of W)
write_from W c u c_on on = flat_gives (λ (d : Correct). accepted d.journal) u c W.nodes c_on on

-- the node that accepted a write
pub record IsWrite (W : World) (u : Update) : Type 0 where
  pub by : Correct
  pub correct : IsIn by W.nodes
  pub accepted : IsIn u (accepted by.journal)

pub write_to : (W : World) (u : Update) → IsIn u (writes_of W) → IsWrite W u
write_to W u on =
    let f : Correct → List Update = λ c. accepted c.journal in
    let g = given_by f u W.nodes on in
    record { by = g.by; correct = giver_in f u W.nodes g; accepted = g.given }

-- a body that is hashed
pub body_hashed : (W : World) (u : Update) → IsIn u (writes_of W) → IsIn (text_of_update u) (hashed_texts W)
body_hashed W u on =
    let bodies = map text_of_update (writes_of W) in
    let held = flat_map (λ (d : Correct). flat_map value_by d.journal) W.nodes in
    in_left (text_of_update u) (bodies ++ held) (flat_map hollow_texts (proofs_of W)) (in_left (text_of_update u) bodies held (in_map text_of_update u (writes_of W) on))

-- a value that is hashed
pub value_hashed : (W : World) (c : Correct) (v : List ℕ) → IsIn c W.nodes → IsIn v (flat_map value_by c.journal) → IsIn v (hashed_texts W)
value_hashed W c v c_on on =
    let bodies = map text_of_update (writes_of W) in
    let held = flat_map (λ (d : Correct). flat_map value_by d.journal) W.nodes in
    in_left v (bodies ++ held) (flat_map hollow_texts (proofs_of W)) (in_right v bodies held (flat_gives (λ (d : Correct). flat_map value_by d.journal) v c W.nodes c_on on))

-- the text of a hollow proof is hashed
pub hollow_hashed : (W : World) (p : Proof) (text : List ℕ) → IsIn p (proofs_of W) → IsIn text (hollow_texts p) → IsIn text (hashed_texts W)
hollow_hashed W p text on of_it =
    let bodies = map text_of_update (writes_of W) in
    let held = flat_map (λ (d : Correct). flat_map value_by d.journal) W.nodes in
    in_right text (bodies ++ held) (flat_map hollow_texts (proofs_of W)) (flat_gives hollow_texts text p (proofs_of W) on of_it)

-- a value that a node holds is one of the world
pub value_held : (W : World) (c : Correct) (v : List ℕ) → IsIn c W.nodes → IsIn v (flat_map value_by c.journal) → IsIn v (world_values W)
value_held W c v c_on on = flat_gives (λ (d : Correct). flat_map value_by d.journal) v c W.nodes c_on on

-- where no hashes collide, two texts of one hash are one
pub one_text : (W : World) → IsCollisionFree W → HaveOneText W
one_text W free =
    let bodies = map text_of_update (writes_of W) in
    let hollow = flat_map hollow_texts (proofs_of W) in
    let body : (a : List ℕ) → IsIn a bodies → IsIn a (hashed_texts W) = λ a on. in_left a (bodies ++ world_values W) hollow (in_left a bodies (world_values W) on) in
    let value : (v : List ℕ) → IsIn v (world_values W) → IsIn v (hashed_texts W) = λ v on. in_left v (bodies ++ world_values W) hollow (in_right v bodies (world_values W) on) in
    record {
      bodies = λ a b a_on b_on e. free.one a b (body a a_on) (body b b_on) e;
      values = λ v w v_on w_on e. free.one v w (value v v_on) (value w w_on) e;
    }

module _ (W : World) (world : IsWorld W) where
  -- a number is that of one node of the world
  pub one_node : (c d : Correct) → IsIn c W.nodes → IsIn d W.nodes → c.node ≡ d.node → c ≡ d
  one_node c d c_on d_on e = one_numbered W.nodes c d world.distinct c_on d_on e

  -- its journal is lawful
  pub journal_lawful : (c : Correct) → IsIn c W.nodes → IsLawful (setting_of W c) c.journal
  journal_lawful c c_on = (world.correct c c_on).lawful

  -- and was at each time
  pub taken_lawful : (c : Correct) (n : ℕ) → IsIn c W.nodes → IsLawful (setting_of W c) (take n c.journal)
  taken_lawful c n c_on = lawful_front (setting_of W c) (take n c.journal) (drop n c.journal) (subst (λ (K : List Record). IsLawful (setting_of W c) K) (sym (take-append-drop n c.journal)) (journal_lawful c c_on))

  -- each write has a text
  pub write_fits : (u : Update) → IsIn u (writes_of W) → IsUpdate u
  write_fits u on = let w = write_to W u on in accepted_fit (setting_of W w.by) w.by.journal u (journal_lawful w.by w.correct) w.accepted

  -- no two writes have one id, where no hashes collide
  pub one_write : HaveOneText W → (t u : Update) → IsIn t (writes_of W) → IsIn u (writes_of W) → id_of_update t ≡ id_of_update u → t ≡ u
  unfolding id_of_update
  one_write free t u t_on u_on e =
      (in_one_way update_body 47779 update_body_lawful).value t u (write_fits t t_on) (write_fits u u_on) (free.bodies (text_of_update t) (text_of_update u) (in_map text_of_update t (writes_of W) t_on) (in_map text_of_update u (writes_of W) u_on) e)
