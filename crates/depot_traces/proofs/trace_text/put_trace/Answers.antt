use Rattle.depot_traces.proofs.TraceLaws.{texts_fit, reads_fit}
use Rattle.depot_traces.proofs.trace_text.put_trace.Goals as goal

pub put_items-requires : goal.put_items-requires
put_items-requires c = rw c.as_slice-texts.ensures (texts_fit c.args.trace.now c.requires)

pub put_items-requires-2 : goal.put_items-requires-2
put_items-requires-2 c = rw c.as_slice-reads.ensures (reads_fit c.args.trace.now c.requires)
