use Rattle.std.proofs.lemmas.Result.{err_from_is_err_and}
use Rattle.depot_streams.proofs.LawfulCalls.{idle_on}
use Rattle.depot_model.proofs.of_journals.JournalCallLaws.{never_stopped}
use Rattle.depot_gossip.specs.Bounding.{bounded_answer, bounded_sent}
use Rattle.depot_gossip.proofs.SentCalls.{unprepared_runs, unprepared_sends, unprepared_well}
use Rattle.depot_gossip.proofs.bounded_bundle.bundle_within.Goals as goal

pub returns-in_err-chosen-clause-call : goal.returns-in_err-chosen-clause-call
returns-in_err-chosen-clause-call g c =
    let here = g.N.NodeState.stands c.args.node.now in
    let sign = g.N.NodeState.signature_of c.args.node.now in
    let J = g.N.NodeState.records c.args.node.now in
    let p = err_from_is_err_and c.from_residual.result c.from_residual.ensures.1 in
    rw (p.1, p.2) (idle_on g.N.NodeState (g.met.N.Replica.only_now) (g.met.N.Replica.after_none) c.args.node.now _ (g.met.N.Replica.lawful c.args.node.now) c.requires.stable
    (never_stopped _ c.requires.runs (unprepared_runs here sign J c.args.hello.now c.args.bounds.now c.in_err-chosen.field-0.0 c.in_err-chosen.ensures))
    (unprepared_well here sign J c.args.hello.now c.args.bounds.now c.in_err-chosen.field-0.0 c.in_err-chosen.ensures))

pub returns-in_err-chosen-clause-bundles : goal.returns-in_err-chosen-clause-bundles
returns-in_err-chosen-clause-bundles g c =
    let p = err_from_is_err_and c.from_residual.result c.from_residual.ensures.1 in
    rw (p.1, p.2) (unprepared_sends (g.N.NodeState.stands c.args.node.now) (g.N.NodeState.signature_of c.args.node.now) (g.N.NodeState.records c.args.node.now) c.args.hello.now c.args.bounds.now c.in_err-chosen.field-0.0 c.in_err-chosen.ensures)

pub returns-clause-bundles : goal.returns-clause-bundles
returns-clause-bundles g c =
    let here = g.N.NodeState.stands c.args.node.now in
    let sign = g.N.NodeState.signature_of c.args.node.now in
    let J = g.N.NodeState.records c.args.node.now in
    rw c.requires.runs at (c.send_prepared.ensures (bounded_answer here sign J c.args.hello.now c.args.bounds.now) (bounded_sent here sign J c.in_ok-chosen.chosen.hello c.args.bounds.now) c.in_ok-chosen.ensures).bundles

pub returns-clause-call : goal.returns-clause-call
returns-clause-call g c =
    let here = g.N.NodeState.stands c.args.node.now in
    let sign = g.N.NodeState.signature_of c.args.node.now in
    let J = g.N.NodeState.records c.args.node.now in
    (c.send_prepared.ensures (bounded_answer here sign J c.args.hello.now c.args.bounds.now) (bounded_sent here sign J c.in_ok-chosen.chosen.hello c.args.bounds.now) c.in_ok-chosen.ensures).call
