use Rattle.depot_base.proofs.Combined.{prefix_free}
use Rattle.depot_traces.specs.TraceTexts.{trace_text}
use Rattle.depot_traces.proofs.TraceLaws.{trace_text_lawful}
use Rattle.depot_traces.proofs.trace_laws.traces_are_prefix_free.Goals as goal

pub returns : goal.returns
returns c = λ v w x y fits_v fits_w e. prefix_free trace_text _ trace_text_lawful v w x y fits_v fits_w e
