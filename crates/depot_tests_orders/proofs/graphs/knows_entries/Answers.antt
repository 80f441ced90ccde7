use Rattle.std.proofs.Common.{◌∙◌, ◌<◌, ap, map, length, get_or, List, arith, refl, subst, sym}
use Rattle.std.proofs.lemmas.List.{take_all}
use Rattle.depot_model.specs.lists.Lists.{IsIn}
use Rattle.depot_model.specs.texts.Texts.{id_of_update}
use Rattle.depot_graph.specs.Kept.{updates_in}
use Rattle.depot_graph.proofs.Known.{entry_is_known}
use Rattle.depot_tests_orders.proofs.graphs.knows_entries.Goals as goal

pub loop-dep-preserved : goal.loop-dep-preserved
loop-dep-preserved c =
    let deps = c.args.update.now.deps in
    let i = c.loop-dep.dep-index in
    let inside : i < length deps = omega (arith, ap length c.as_slice-dep-items.ensures, c.loop-dep-test.true) in
    entry_is_known (map id_of_update (updates_in c.args.graph.now.items.entries)) deps i c.dep-item.result inside
    (c.dep-item.is ∙ ap (λ (items : List _). get_or items i c.dep-item.result) c.as_slice-dep-items.ensures) c.loop-dep.invariant (c.if-not-knows.ensures refl)

pub returns : goal.returns
returns c = λ yes h on.
    c.loop-dep.invariant h
    (subst (λ (deps : List _). IsIn h (map (λ d. d.id) deps)) (sym (take_all c.loop-dep.dep-index c.args.update.now.deps (omega (arith, ap length c.as_slice-dep-items.ensures, c.loop-dep-test.false)))) on)
