use Rattle.std.proofs.Common.{arith}
use Rattle.depot_base.proofs.Decoding.{decodes}
use Rattle.depot_traces.specs.TraceTexts.{trace_text}
use Rattle.depot_traces.proofs.TraceLaws.{trace_text_lawful}
use Rattle.depot_traces.proofs.trace_text.decode_trace.Goals as goal

pub returns : goal.returns
returns c = rw c.answer.ensures (decodes trace_text _ trace_text_lawful c.args.text.now (λ i. omega (arith, c.type_inv.text i)) c.whole_trace.result (rw c.new.ensures at c.whole_trace.ensures))
