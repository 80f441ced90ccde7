-- The text of a trace as the definitions of audits have it.
use Rattle.std.specs.Prelude.{ℕ, List, map}
use Rattle.depot_model.specs.texts.Contents.{Sighting, held_value, not_held, gone}
use Rattle.depot_model.specs.worlds.Traces as traces
use Rattle.depot_traces.specs.TraceTexts.{text_of_trace}
use Rattle.depot_traces.specs.declared.trace.Answered.{Answered}
use Rattle.depot_traces.specs.declared.trace.ReadTrace.{ReadTrace}
use Rattle.depot_traces.specs.declared.trace.Shown.{Shown}
use Rattle.depot_traces.specs.declared.trace.Shown.TheVariants.{NotHeld, Held, Gone}
use Rattle.depot_traces.specs.declared.trace.Trace.{Trace}

-- as a trace that has a text, part by part

abbrev pub told_shown : Sighting → Shown
told_shown not_held = NotHeld
told_shown (held_value value) = Held value
told_shown gone = Gone

abbrev pub told_answered : traces.Answered → Answered
told_answered a = record { id = a.id; shown = told_shown a.shown }

abbrev pub told_read : traces.ReadTrace → ReadTrace
told_read r = record { length = r.length; key = r.key; answer = map told_answered r.answer }

abbrev pub told_trace : traces.Trace → Trace
told_trace t = record { node = t.node; texts = t.texts; reads = map told_read t.reads }

-- the bytes of the file in which it is handed in
abbrev pub file_of_trace : traces.Trace → List ℕ
file_of_trace t = text_of_trace (told_trace t)
