use Rattle.std.proofs.Common.{List, ℕ}
use Rattle.depot_model.specs.lists.Items.{places_of}
use Rattle.depot_graph.specs.Kept.{updates_in}
use Rattle.depot_model.specs.exchange.Bundle.{is_candidate}
use Rattle.depot_graph.specs.UpdateRows.{IsJoinedRow}
use Rattle.depot_queries.proofs.BesidePlaces.{IsSoFar}
use Rattle.depot_queries.proofs.TailLaws.{AreLooked}
use Rattle.depot_queries.proofs.candidate_places.lacked_among.Given as goal

abbrev pub invariant-loop-item : goal.invariant-loop-item
invariant-loop-item l = record {
  looked : AreLooked (updates_in l.graph.items.entries) l.items l.item-index l.next;
  so_far : (ids : List (List ℕ)) → IsJoinedRow (updates_in l.graph.items.entries) (places_of (updates_in l.graph.items.entries) ids) l.row → IsSoFar (is_candidate (updates_in l.graph.items.entries) ids l.reader) (updates_in l.graph.items.entries) l.places l.next l.found;
}
