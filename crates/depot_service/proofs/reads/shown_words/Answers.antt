use Rattle.std.proofs.Common.{ℕ, List, get_or, refl, sym, ap, subst, ◌∙◌, arith}
use Rattle.std.specs.Prelude.{slice_get}
use Rattle.depot_base.specs.declared.update.Update.{Update}
use Rattle.depot_model.specs.updates.Order.{AreLatestIn}
use Rattle.std.proofs.lemmas.List.{take_all}
use Rattle.depot_model.specs.lists.Items.{updates_at}
use Rattle.depot_model.specs.journals.Journal.{accepted}
use Rattle.depot_service.specs.Printing.{shown_text}
use Rattle.depot_service.proofs.ShownWrites.{is_one_of_them, printed_more, shown_are, shown_as}
use Rattle.depot_service.proofs.reads.shown_words.Goals as goal

pub value_of-requires-clause-writes : goal.value_of-requires-clause-writes
value_of-requires-clause-writes g c = λ v at.
    let J = g.N.NodeState.records c.args.node.now in
    let items = c.latest-item-items.result.now in
    let latest = subst (λ (us : List Update). AreLatestIn c.args.key.now us (updates_at us items)) c.graph-graph.ensures c.latest-item-items.ensures.latest in
    (latest.only v (is_one_of_them (accepted J) items c.loop-item.item-index _ v c.loop-item-test.true refl at)).writes

pub loop-item-preserved : goal.loop-item-preserved
loop-item-preserved g c =
    let J = g.N.NodeState.records c.args.node.now in
    let items = c.latest-item-items.result.now in
    let u = c.update-update.result.now in
    let at = ap (λ (us : List Update). slice_get us (get_or items c.loop-item.item-index 0)) (sym c.graph-graph.ensures) ∙ c.update-update.ensures in
    let shown = c.seen-shown.ensures J (c.value_of.ensures u at) in
    printed_more J (accepted J) c.args.key.now items c.loop-item.item-index _ u c.loop-item.words c.add_write.new.line _ c.loop-item-test.true refl at shown c.loop-item.invariant c.in_ok-add_write.ensures

pub returns : goal.returns
returns g c =
    let J = g.N.NodeState.records c.args.node.now in
    let items = c.latest-item-items.result.now in
    let latest = subst (λ (us : List Update). AreLatestIn c.args.key.now us (updates_at us items)) c.graph-graph.ensures c.latest-item-items.ensures.latest in
    let all = take_all c.loop-item.item-index items (omega (arith, c.loop-item-test.false)) in
    c.loop-item.invariant ∙ ap (λ (x : List ℕ). shown_text (shown_as J c.args.key.now (updates_at (accepted J) x))) all ∙ ap shown_text (shown_are _ J c.args.key.now items (g.met.N.Replica.lawful c.args.node.now) latest)
