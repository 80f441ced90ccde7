use Rattle.std.proofs.Common.{◌≡◌, take, not, None}
use Rattle.std.specs.Prelude.{find}
use Rattle.depot_graph.specs.Kept.{updates_in}
use Rattle.depot_model.specs.journals.Journal.{has_id}
use Rattle.depot_queries.proofs.due.first_unknown.Given as goal

abbrev pub invariant-loop-id : goal.invariant-loop-id
invariant-loop-id l = find (λ h. not (has_id (updates_in l.graph.items.entries) h)) (take l.id-index l.ids) ≡ None
