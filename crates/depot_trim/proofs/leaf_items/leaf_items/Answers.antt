use Rattle.std.proofs.Common.{◌<◌, ◌∙◌, ℕ, List, [], ◌∷◌, ◌++◌, length, take, Some, None, sym, ap, subst}
use Rattle.std.specs.List.{AllByRecursion}
use Rattle.std.proofs.lemmas.List.{append-nil}
use Rattle.depot_model.specs.declared.hello.HelloLeaf.{HelloLeaf}
use Rattle.depot_model.specs.lists.Items.{places_of}
use Rattle.depot_model.proofs.lists.Members.{all_push}
use Rattle.depot_graph.specs.Kept.{updates_in}
use Rattle.depot_graph.proofs.CoveredItems.{place_within}
use Rattle.depot_trim.specs.Trimmings.{ids_in}
use Rattle.depot_trim.proofs.SoFar.{element_at, map_at, places_next}
use Rattle.depot_trim.proofs.leaf_items.leaf_items.Goals as goal

pub loop-leaf-preserved-in_default : goal.loop-leaf-preserved-in_default
loop-leaf-preserved-in_default c =
    let us = updates_in c.args.graph.now.items.entries in
    let l = c.leaf-item.result in
    let i = c.loop-leaf.leaf-index in
    let at = map_at (λ (x : HelloLeaf). x.id) c.args.leaves.now i l (element_at c.args.leaves.now i l c.loop-leaf-test.true c.leaf-item.is) in
    record {
      items = c.loop-leaf.invariant.items ∙ sym (places_next us (ids_in c.args.leaves.now) i l.id None at c.in_default.ensures ∙ append-nil (places_of us (take i (ids_in c.args.leaves.now))));
      inside = c.loop-leaf.invariant.inside;
    }

pub loop-leaf-preserved : goal.loop-leaf-preserved
loop-leaf-preserved c =
    let us = updates_in c.args.graph.now.items.entries in
    let l = c.leaf-item.result in
    let i = c.loop-leaf.leaf-index in
    let at = map_at (λ (x : HelloLeaf). x.id) c.args.leaves.now i l (element_at c.args.leaves.now i l c.loop-leaf-test.true c.leaf-item.is) in
    record {
      items = c.in_ok-push.ensures.items ∙ ap (λ (ns : List ℕ). ns ++ c.in-Some.item ∷ []) c.loop-leaf.invariant.items ∙ sym (places_next us (ids_in c.args.leaves.now) i l.id (Some c.in-Some.item) at c.in-Some.ensures);
      inside = subst (AllByRecursion (λ item. item < length us)) (sym c.in_ok-push.ensures.items) (all_push (λ item. item < length us) c.loop-leaf.items.items c.in-Some.item c.loop-leaf.invariant.inside (place_within us l.id c.in-Some.item (sym c.in-Some.ensures)));
    }
