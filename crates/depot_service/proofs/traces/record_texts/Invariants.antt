use Rattle.std.proofs.Common.{◌≡◌, map, take}
use Rattle.depot_model.specs.texts.Records.{text_of_record}
use Rattle.depot_service.proofs.traces.record_texts.Given as goal

abbrev pub invariant-loop-place : goal.invariant-loop-place
invariant-loop-place g l = l.texts ≡ take l.place (map text_of_record (g.R.NodeState.records l.node))
