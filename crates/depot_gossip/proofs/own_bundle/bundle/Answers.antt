use Rattle.std.proofs.lemmas.Result.{err_from_is_err_and}
use Rattle.depot_model.specs.exchange.Bundle.{bundle_answer, sent_for}
use Rattle.depot_streams.proofs.LawfulCalls.{idle_on}
use Rattle.depot_gossip.proofs.StreamLaws.{no_disk, not_bundled, not_prepared_answers, prepared_is_ready}
use Rattle.depot_gossip.proofs.own_bundle.bundle.Goals as goal

-- ---- before any voucher is made

pub returns-in_err-chosen-clause-bundles : goal.returns-in_err-chosen-clause-bundles
returns-in_err-chosen-clause-bundles g c =
    let p = err_from_is_err_and c.from_residual.result c.from_residual.ensures.1 in
    rw (p.1, p.2) (not_bundled (g.R.NodeState.stands c.args.node.now) (g.R.NodeState.signature_of c.args.node.now) (g.R.NodeState.records c.args.node.now) (g.R.NodeState.stopped c.args.node.now) c.args.hello.now c.in_err-chosen.field-0.0 c.in_err-chosen.ensures.prepares)

pub returns-in_err-chosen-clause-call : goal.returns-in_err-chosen-clause-call
returns-in_err-chosen-clause-call g c =
    let p = err_from_is_err_and c.from_residual.result c.from_residual.ensures.1 in
    rw (p.1, p.2) (idle_on g.R.NodeState (g.met.R.Replica.only_now) (g.met.R.Replica.after_none) c.args.node.now _ (g.met.R.Replica.lawful c.args.node.now) c.prepare.ensures.stable
    (not_prepared_answers (g.R.NodeState.stands c.args.node.now) (g.R.NodeState.signature_of c.args.node.now) (g.R.NodeState.records c.args.node.now) (g.R.NodeState.stopped c.args.node.now) c.args.hello.now c.in_err-chosen.field-0.0 c.in_err-chosen.ensures.prepares)
    (no_disk (g.R.NodeState.stands c.args.node.now) (g.R.NodeState.signature_of c.args.node.now) (g.R.NodeState.records c.args.node.now) (g.R.NodeState.stopped c.args.node.now) c.args.hello.now c.in_err-chosen.field-0.0 c.in_err-chosen.ensures.prepares))

-- ---- the rest

pub send_prepared-requires-clause-runs : goal.send_prepared-requires-clause-runs
send_prepared-requires-clause-runs g c = c.in_ok-chosen.ensures.prepares.runs

pub send_prepared-requires-clause-ready : goal.send_prepared-requires-clause-ready
send_prepared-requires-clause-ready g c =
    let here = g.R.NodeState.stands c.args.node.now in
    let sign = g.R.NodeState.signature_of c.args.node.now in
    let J = g.R.NodeState.records c.args.node.now in (
      bundle_answer here sign J c.args.hello.now,
      (
        sent_for sign J c.in_ok-chosen.chosen.hello,
        prepared_is_ready here sign J (g.R.NodeState.stopped c.args.node.now) c.args.hello.now c.in_ok-chosen.chosen (g.met.R.Replica.lawful c.args.node.now) c.in_ok-chosen.ensures.prepares,
      ),
    )

pub returns-clause-bundles : goal.returns-clause-bundles
returns-clause-bundles g c =
    let here = g.R.NodeState.stands c.args.node.now in
    let sign = g.R.NodeState.signature_of c.args.node.now in
    let J = g.R.NodeState.records c.args.node.now in
    (c.send_prepared.ensures (bundle_answer here sign J c.args.hello.now) (sent_for sign J c.in_ok-chosen.chosen.hello)
    (prepared_is_ready here sign J (g.R.NodeState.stopped c.args.node.now) c.args.hello.now c.in_ok-chosen.chosen (g.met.R.Replica.lawful c.args.node.now) c.in_ok-chosen.ensures.prepares)).bundles

pub returns-clause-call : goal.returns-clause-call
returns-clause-call g c =
    let here = g.R.NodeState.stands c.args.node.now in
    let sign = g.R.NodeState.signature_of c.args.node.now in
    let J = g.R.NodeState.records c.args.node.now in
    (c.send_prepared.ensures (bundle_answer here sign J c.args.hello.now) (sent_for sign J c.in_ok-chosen.chosen.hello)
    (prepared_is_ready here sign J (g.R.NodeState.stopped c.args.node.now) c.args.hello.now c.in_ok-chosen.chosen (g.met.R.Replica.lawful c.args.node.now) c.in_ok-chosen.ensures.prepares)).call
