use Rattle.std.proofs.Common.{ℕ, List, refl, ap, subst, ◌∙◌, map, arith}
use Rattle.depot_base.specs.declared.update.Update.{Update}
use Rattle.depot_model.specs.updates.Order.{AreLatestIn}
use Rattle.std.proofs.lemmas.List.{take_all}
use Rattle.depot_model.proofs.lists.Members.{all_push}
use Rattle.depot_model.specs.lists.Items.{updates_at}
use Rattle.depot_model.specs.journals.Journal.{accepted}
use Rattle.depot_model.specs.worlds.Traces as traces
use Rattle.depot_traces.specs.TraceTexts.{answered_text}
use Rattle.depot_service.proofs.ShownWrites.{is_one_of_them, shown_as}
use Rattle.depot_service.proofs.TracedReads.{is_read, told_more}
use Rattle.depot_service.proofs.traces.read_traced.Goals as goal

pub answered-requires-clause-writes : goal.answered-requires-clause-writes
answered-requires-clause-writes g c = λ v at.
    let J = g.N.NodeState.records c.args.node.now in
    let items = c.latest-item-items.result.now in
    let latest = subst (λ (us : List Update). AreLatestIn c.args.key.now us (updates_at us items)) c.graph.ensures c.latest-item-items.ensures.latest in
    (latest.only v (is_one_of_them (accepted J) items c.loop-item.item-index _ v c.loop-item-test.true refl at)).writes

pub loop-item-preserved : goal.loop-item-preserved
loop-item-preserved g c =
    let J = g.N.NodeState.records c.args.node.now in
    let items = c.latest-item-items.result.now in
    let told = c.in_ok-answered.ensures in
    let inv = c.loop-item.invariant in
    rw c.in_ok-push.ensures.ok (record {
      fit = all_push answered_text.fits c.loop-item.answer c.in_ok-answered.field-0 inv.fit told.1.1.0;
      told = told_more J (accepted J) c.args.key.now items c.loop-item.item-index _ told.0 c.loop-item.answer c.in_ok-answered.field-0 c.loop-item-test.true refl told.1.0 told.1.1.1 inv.told;
    })

pub returns : goal.returns
returns g c =
    let J = g.N.NodeState.records c.args.node.now in
    let items = c.latest-item-items.result.now in
    let latest = subst (λ (us : List Update). AreLatestIn c.args.key.now us (updates_at us items)) c.graph.ensures c.latest-item-items.ensures.latest in
    let all = take_all c.loop-item.item-index items (omega (arith, c.loop-item-test.false)) in
    let inv = c.loop-item.invariant in
    let made = c.from_bytes.ensures ∙ c.in_ok-from_slice.ensures ∙ c.bytes.ensures.same in
    rw made (is_read _ J c.args.key.now items c.record_count.result c.loop-item.answer (g.met.N.Replica.lawful c.args.node.now) latest c.bytes.ensures.key c.record_count.ensures inv.fit
    (inv.told ∙ ap (λ (x : List ℕ). map traces.answered (shown_as J c.args.key.now (updates_at (accepted J) x))) all))
