use Rattle.depot_traces.proofs.TraceLaws.{answers_fit}
use Rattle.depot_traces.proofs.trace_items.ReadTraceItem.put.Goals as goal

pub put_items-requires : goal.put_items-requires
put_items-requires c = rw c.as_slice-answer.ensures (answers_fit c.args.self.now c.requires)
