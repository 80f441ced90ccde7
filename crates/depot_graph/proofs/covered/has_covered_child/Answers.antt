use Rattle.std.proofs.Common.{◌≡◌, ◌∙◌, ℕ, List, ap, get_or, sym, subst, refl, arith}
use Rattle.std.proofs.lemmas.Option.{slice_get-get_or, slice_get_within}
use Rattle.depot_model.specs.lists.Items.{children_of}
use Rattle.depot_model.specs.lists.Lists.{IsIn}
use Rattle.depot_model.proofs.lists.Elements.{in_at}
use Rattle.depot_graph.specs.Kept.{updates_in}
use Rattle.depot_graph.specs.PastChains.{IsCovered}
use Rattle.depot_graph.proofs.ItemPlaces.{index_of, below_more}
use Rattle.depot_graph.proofs.ChainLeaves.{child_is}
use Rattle.depot_graph.proofs.covered.has_covered_child.Goals as goal

pub is_covered-requires-clause-item : goal.is_covered-requires-clause-item
is_covered-requires-clause-item c =
    let us = updates_in c.args.graph.now.items.entries in
    let list = c.children-child-items.result.now in
    let n = get_or list c.loop-child.child-index 0 in
    let on = in_at list c.loop-child.child-index n (slice_get-get_or list c.loop-child.child-index 0 c.loop-child-test.true) in
    let k = child_is us c.args.item n (subst (λ (ns : List ℕ). IsIn n ns) c.children-child-items.ensures on) in
    slice_get_within us n k.below k.at_below

pub returns-then-is_covered : goal.returns-then-is_covered
returns-then-is_covered c = λ items joined.
    let list = c.children-child-items.result.now in
    let n = get_or list c.loop-child.child-index 0 in
    let on = in_at list c.loop-child.child-index n (slice_get-get_or list c.loop-child.child-index 0 c.loop-child-test.true) in (
      (λ _. (n, (subst (λ (ns : List ℕ). IsIn n ns) c.children-child-items.ensures on, (c.is_covered.ensures items joined).0 c.if-is_covered.true))),
      (λ _. refl),
    )

pub loop-child-preserved : goal.loop-child-preserved
loop-child-preserved c = λ items joined.
    let us = updates_in c.args.graph.now.items.entries in
    let here = ap (λ (ns : List ℕ). get_or ns c.loop-child.child-index 0) c.children-child-items.ensures in
    below_more (λ j. IsCovered us items (get_or (children_of us c.args.item) j 0) → ⊥) c.loop-child.child-index (c.loop-child.invariant items joined)
    (λ covered. let hit = (c.is_covered.ensures items joined).1 (subst (IsCovered us items) (sym here) covered) in let not_hit = c.if-is_covered.false in absurd cc)

pub returns : goal.returns
returns c = λ items joined.
    let us = updates_in c.args.graph.now.items.entries in (
      (λ never. absurd cc),
      (λ child.
          let list = c.children-child-items.result.now in
          let p = index_of child.0 0 list (subst (λ (ns : List ℕ). IsIn child.0 ns) (sym c.children-child-items.ensures) child.1.0) in
          let there : get_or (children_of us c.args.item) p.0 0 ≡ child.0 = ap (λ (ns : List ℕ). get_or ns p.0 0) (sym c.children-child-items.ensures) ∙ p.1.1 in
          absurd (c.loop-child.invariant items joined p.0 (omega (arith, p.1.0, c.loop-child-test.false)) (subst (IsCovered us items) (sym there) child.1.1))),
    )
