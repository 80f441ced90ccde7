-- What a hosted node hands in for an audit.
use Rattle.std.proofs.Common.{◌≡◌, ℕ, List, map, ap, ◌∙◌}
use Rattle.depot_base.specs.declared.record.Record.{Record}
use Rattle.depot_model.specs.texts.Records.{text_of_record}
use Rattle.depot_model.specs.worlds.Traces as audits
use Rattle.depot_traces.specs.SeenTraces.{read_of}
use Rattle.depot_traces.specs.declared.trace.ReadTrace.{ReadTrace}

-- the node whose trace it is, is the one that is hosted
pub handed_by : (t : audits.Trace) (me own : ℕ) (J : List Record) (reads : List ReadTrace) → me ≡ own → t ≡ record { node = me; texts = map text_of_record J; reads = map read_of reads } → t ≡ record { node = own; texts = map text_of_record J; reads = map read_of reads }
handed_by t me own J reads same is = is ∙ ap (λ (n : ℕ). record { node = n; texts = map text_of_record J; reads = map read_of reads }) same
