use Rattle.std.proofs.Common.{List, ℕ}
use Rattle.depot_model.specs.lists.Items.{places_of}
use Rattle.depot_graph.specs.Kept.{updates_in}
use Rattle.depot_model.specs.exchange.Bundle.{is_candidate}
use Rattle.depot_graph.specs.UpdateRows.{IsJoinedRow}
use Rattle.depot_queries.proofs.BesidePlaces.{IsSoFar}
use Rattle.depot_queries.proofs.candidate_places.lacked_of_all.Given as goal

abbrev pub invariant-loop-item : goal.invariant-loop-item
invariant-loop-item l = (ids : List (List ℕ)) → IsJoinedRow (updates_in l.graph.items.entries) (places_of (updates_in l.graph.items.entries) ids) l.row → IsSoFar (is_candidate (updates_in l.graph.items.entries) ids l.reader) (updates_in l.graph.items.entries) l.places l.item l.found
