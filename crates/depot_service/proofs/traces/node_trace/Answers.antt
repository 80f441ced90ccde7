use Rattle.depot_service.proofs.NodeTraces.{is_trace}
use Rattle.depot_service.proofs.traces.node_trace.Goals as goal

pub returns : goal.returns
returns g c =
    is_trace (g.R.NodeState.stands c.args.node.now) (g.R.NodeState.records c.args.node.now) c.me.result c.in_ok-record_texts.field-0 c.args.reads.now c.in_ok-reads_again.field-0 (g.met.R.Replica.lawful c.args.node.now) (g.met.R.Replica.some c.args.node.now) c.me.ensures c.in_ok-record_texts.ensures c.in_ok-reads_again.ensures c.requires.few c.requires.fit
