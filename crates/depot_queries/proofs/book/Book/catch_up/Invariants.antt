use Rattle.std.proofs.Common.{◌≤◌, take}
use Rattle.depot_graph.specs.Kept.{updates_in}
use Rattle.depot_queries.specs.Books.{IsBookOf, items_read}
use Rattle.depot_queries.proofs.book.Book.catch_up.Given as goal

abbrev pub invariant-loop-item : goal.invariant-loop-item
invariant-loop-item l = record {
  book : IsBookOf (take l.item (updates_in l.graph.items.entries)) l.self;
  more : items_read l.initial.self ≤ items_read l.self;
}
