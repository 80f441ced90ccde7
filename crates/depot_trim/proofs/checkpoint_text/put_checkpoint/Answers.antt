use Rattle.std.proofs.Common.{◌≡◌, ℕ, List, [], ◌++◌, append_assoc, length, ap, ◌∙◌}
use Rattle.std.specs.List.{flat_map}
use Rattle.std.specs.Int.{w16}
use Rattle.std.proofs.lemmas.List.{append-nil}
use Rattle.std.proofs.lemmas.Result.{on_ok_weaker}
use Rattle.depot_base.specs.Cursor.{numeral}
use Rattle.depot_base.specs.Format.{number, bytes_of, list_of}
use Rattle.depot_model.specs.declared.hello.HelloLeaf.{HelloLeaf}
use Rattle.depot_model.specs.exchange.Hello.{hello_leaf}
use Rattle.depot_model.specs.readers.Checkpoints.{Checkpoint, checkpoint, text_of_checkpoint}
use Rattle.depot_trim.proofs.checkpoint_text.put_checkpoint.Goals as goal

-- four pieces, the last of which is a count and a list
joined : (out a b c n l o1 o2 o3 : List ℕ) → o1 ≡ out ++ a → o2 ≡ o1 ++ b → o3 ≡ o2 ++ c → o3 ++ (n ++ l) ≡ out ++ (a ++ (b ++ (c ++ (n ++ (l ++ [])))))
joined out a b c n l o1 o2 o3 p1 p2 p3 = rw (p3, p2, p1) (simp (append_assoc, append-nil))

-- a list preceded by its count
abbrev counted : List ℕ → List HelloLeaf → List ℕ
counted out s = out ++ (numeral w16 (length s) ++ flat_map (λ l. hello_leaf.text l) s)

pub returns : goal.returns
unfolding checkpoint number bytes_of list_of
returns c =
    let inside = c.checkpoint.inside in
    let roster = c.in_ok-push_all.ensures.ok ∙ ap (λ (h : List ℕ). c.push_u8-2.new.self ++ h) c.bytes.ensures.same in
    let leaves = ap (counted c.push_all.new.self) c.as_slice.ensures in
    let is = ap (λ (x : Checkpoint). text_of_checkpoint x) c.checkpoint.view_is in
    on_ok_weaker c.put_list.result (λ same. same ∙ leaves ∙ joined _ _ _ _ (numeral w16 (length inside.leaves)) (flat_map (λ l. hello_leaf.text l) inside.leaves) _ _ _ c.in_ok-push_u8.ensures.ok c.in_ok-push_u8-2.ensures.ok roster ∙ ap (λ (t : List ℕ). c.args.out.now ++ t) is) c.put_list.ensures
