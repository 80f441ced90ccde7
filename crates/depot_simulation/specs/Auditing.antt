-- What the nodes of a simulation hand in for an audit.
use Rattle.std.specs.Prelude.{List, map, length, ◌≤◌}
use Rattle.std.specs.List.{AllByRecursion}
use Rattle.depot_model.specs.texts.Records.{text_of_record}
use Rattle.depot_model.specs.worlds.Traces as audits
use Rattle.depot_traces.specs.SeenTraces.{read_of}
use Rattle.depot_traces.specs.declared.trace.TheConstants.{MOST_READS}
use Rattle.depot_simulation.specs.Acting.{HaveTexts, ParticipantView}
use Rattle.depot_simulation.specs.declared.participant.Participant.{Participant}

-- a node's records, and the reads that were kept of it
abbrev pub handed_in : ParticipantView → audits.Trace
handed_in p = record { node = p.view.here.me; texts = map text_of_record p.view.journal; reads = map read_of p.reads }

-- no node has more reads than a trace, and each has a text
abbrev pub MayHandIn : {A : Type 0} → List (Participant A) → Type 0
MayHandIn = AllByRecursion (λ p. HaveTexts p.reads × (length p.reads ≤ MOST_READS))
