-- What a node's trace records.
use Rattle.std.specs.Prelude.{◌≡◌, ℕ, List, map, Some, slice_get}
use Rattle.depot_base.specs.declared.record.Record.{Record}
use Rattle.depot_base.specs.declared.update.Update.{Update}
use Rattle.depot_model.specs.journals.Journal.{accepted, seen_under}
use Rattle.depot_model.specs.texts.Records.{text_of_record}
use Rattle.depot_model.specs.worlds.Traces as audits
use Rattle.depot_traces.specs.SeenTraces as seen_traces
use Rattle.depot_traces.specs.ToldTraces.{file_of_trace}
use Rattle.depot_traces.specs.TraceTexts.{IsTrace, answered_text}
use Rattle.depot_traces.specs.declared.trace.Answered.{Answered}
use Rattle.depot_traces.specs.declared.trace.ReadTrace.{ReadTrace}
use Rattle.depot_traces.specs.declared.trace.Trace.{Trace}

-- A trace records a write of a key, by the accepted update of a place, as its id and what a read shows of it.
abbrev pub IsTracedWrite : List Record → ℕ → List ℕ → Answered → Type 0
IsTracedWrite J item key a = (u : Update) × ((slice_get (accepted J) item ≡ Some u) × (answered_text.fits a
    × (seen_traces.answered_of a ≡ audits.answered (record { update = u; seen = seen_under J key u }))))

-- It has a text, and is the trace of the node of this number, with the texts of its records and with these reads.
abbrev pub IsTraceOf : ℕ → List Record → List ReadTrace → Trace → Type 0
IsTraceOf me J reads t = IsTrace t × (seen_traces.trace_of t ≡ record { node = me; texts = map text_of_record J; reads = map seen_traces.read_of reads })

-- The bytes of the trace that the node of this number hands in for an audit: the texts of its records, and these reads.
abbrev pub export_of : ℕ → List Record → List audits.ReadTrace → List ℕ
export_of me J reads = file_of_trace (record { node = me; texts = map text_of_record J; reads = reads })
