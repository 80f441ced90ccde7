-- What is seen of places that are to come.
use Rattle.std.specs.Prelude.{ℕ, List, length}
use Rattle.depot_kept.specs.declared.table.Places.{Places}
use Rattle.depot_kept.specs.Links.{places_from}

-- those that are to come
unfoldable pub left : Places → List ℕ
left places = places_from places.links.now (length places.links.now) places.next
