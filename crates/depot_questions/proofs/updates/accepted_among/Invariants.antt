use Rattle.std.proofs.Common.{◌≡◌, map, take}
use Rattle.depot_graph.specs.Kept.{updates_in}
use Rattle.depot_model.specs.journals.Journal.{has_id}
use Rattle.depot_questions.proofs.updates.accepted_among.Given as goal

abbrev pub invariant-loop-id : goal.invariant-loop-id
invariant-loop-id l = l.flags ≡ map (has_id (updates_in l.graph.items.entries)) (take l.id-index l.ids)
