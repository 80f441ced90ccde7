use Rattle.depot_base.proofs.Decoding.{in_one_way}
use Rattle.depot_traces.specs.TraceTexts.{trace_text}
use Rattle.depot_traces.proofs.TraceLaws.{trace_text_lawful}
use Rattle.depot_traces.proofs.trace_laws.traces_are_read_in_one_way.Goals as goal

pub returns : goal.returns
returns c = in_one_way trace_text _ trace_text_lawful
