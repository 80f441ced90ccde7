use Rattle.std.proofs.Common.{◌≡◌, ◌∙◌, ℕ, List, true, arith, sym, subst}
use Rattle.std.proofs.lemmas.List.{length-map}
use Rattle.depot_model.specs.declared.hello.HelloLeaf.{HelloLeaf}
use Rattle.depot_model.specs.journals.Journal.{has_id}
use Rattle.depot_model.specs.updates.Order.{past}
use Rattle.depot_graph.specs.Kept.{updates_in}
use Rattle.depot_trim.specs.Trimmings.{ids_in, has_all_in_past}
use Rattle.depot_trim.proofs.SoFar.{all_next, element_at, map_at, not_all, whole}
use Rattle.depot_trim.proofs.unsigned.follows_all.Goals as goal

pub returns-then-not-follows : goal.returns-then-not-follows
returns-then-not-follows c = λ u at.
    let us = updates_in c.args.graph.now.items.entries in
    let l = c.leaf-item.result in
    let i = c.loop-leaf.leaf-index in
    let there = map_at (λ (x : HelloLeaf). x.id) c.args.leaves.now i l (element_at c.args.leaves.now i l c.loop-leaf-test.true c.leaf-item.is) in
    sym (not_all (λ h. has_id (past u us) h) (ids_in c.args.leaves.now) i l.id there (sym (c.follows.ensures u at) ∙ c.if-not-follows.true))

pub loop-leaf-preserved : goal.loop-leaf-preserved
loop-leaf-preserved c = λ u at.
    let us = updates_in c.args.graph.now.items.entries in
    let l = c.leaf-item.result in
    let i = c.loop-leaf.leaf-index in
    let there = map_at (λ (x : HelloLeaf). x.id) c.args.leaves.now i l (element_at c.args.leaves.now i l c.loop-leaf-test.true c.leaf-item.is) in
    all_next (λ h. has_id (past u us) h) (ids_in c.args.leaves.now) i l.id there (c.loop-leaf.invariant u at) (sym (c.follows.ensures u at) ∙ c.if-not-follows.false)

pub returns : goal.returns
returns c = λ u at.
    let us = updates_in c.args.graph.now.items.entries in
    let i = c.loop-leaf.leaf-index in
    let all = whole i (ids_in c.args.leaves.now) (omega (arith, length-map c.args.leaves.now (λ (x : HelloLeaf). x.id), c.loop-leaf-test.false)) in
    sym (subst (λ (ids : List (List ℕ)). has_all_in_past us ids u ≡ true) all (c.loop-leaf.invariant u at))
