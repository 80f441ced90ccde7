-- How the definitions of audits see traces and findings.
use Rattle.std.specs.Prelude.{map}
use Rattle.depot_model.specs.worlds.Audit.{the_write, the_read, yes_found, unlawful, answer_found, circle_found, unordered_found, unseen_found, wrong_found, split_found, named_found}
use Rattle.depot_model.specs.worlds.Audit as audits
use Rattle.depot_model.specs.texts.Contents.{Sighting, held_value, not_held, gone}
use Rattle.depot_model.specs.worlds.Traces as traces
use Rattle.depot_traces.specs.declared.finding.Finding.{Finding}
use Rattle.depot_traces.specs.declared.finding.Finding.TheVariants as finding
use Rattle.depot_traces.specs.declared.finding.Op.{Op}
use Rattle.depot_traces.specs.declared.finding.Op.TheVariants as op
use Rattle.depot_traces.specs.declared.trace.Answered.{Answered}
use Rattle.depot_traces.specs.declared.trace.ReadTrace.{ReadTrace}
use Rattle.depot_traces.specs.declared.trace.Shown.{Shown}
use Rattle.depot_traces.specs.declared.trace.Shown.TheVariants.{NotHeld, Held, Gone}
use Rattle.depot_traces.specs.declared.trace.Trace.{Trace}

-- ---- traces

abbrev pub sighting_of : Shown → Sighting
sighting_of NotHeld = not_held
sighting_of (Held value) = held_value value
sighting_of Gone = gone

abbrev pub answered_of : Answered → traces.Answered
answered_of a = record { id = a.id; shown = sighting_of a.shown }

abbrev pub read_of : ReadTrace → traces.ReadTrace
read_of r = record { length = r.length; key = r.key; answer = map answered_of r.answer }

abbrev pub trace_of : Trace → traces.Trace
trace_of t = record { node = t.node; texts = t.texts; reads = map read_of t.reads }

-- ---- findings

abbrev pub op_of_trace : Op → audits.Op
op_of_trace (op.Write node place) = the_write node place
op_of_trace (op.Read node place) = the_read node place

abbrev pub finding_of : Finding → audits.Finding
finding_of finding.Yes = yes_found
finding_of (finding.Unlawful node place fault) = unlawful node place fault
finding_of (finding.Answer node place) = answer_found node place
finding_of (finding.Circle o) = circle_found (op_of_trace o)
finding_of (finding.Unordered a b) = unordered_found (op_of_trace a) (op_of_trace b)
finding_of (finding.Unseen a b) = unseen_found (op_of_trace a) (op_of_trace b)
finding_of (finding.Wrong node place) = wrong_found node place
finding_of (finding.Split node place) = split_found node place
finding_of (finding.Named node place) = named_found node place
