-- What is seen of a table.
use Rattle.std.specs.Prelude.{ℕ, ◌-◌, List, length, min, vec_len}
use Rattle.std.specs.Vec.{vec_capacity}
use Rattle.depot_kept.specs.declared.marks.StatementMark.{StatementMark}
use Rattle.depot_kept.specs.declared.table.PlaceTable.{PlaceTable}
use Rattle.depot_kept.specs.Links.{places_from}
use Rattle.depot_kept.specs.Heads.{head, spare_heads}

-- the places under a mark, the newest first
unfoldable pub places_with_mark : PlaceTable → StatementMark → List ℕ
places_with_mark table mark = places_from table.links.items (length table.links.items) (head table.newest mark)

-- how many links there are, one for each mark of each place
unfoldable pub link_count : PlaceTable → ℕ
link_count table = length table.links.items

-- how many places more have reserved memory
unfoldable pub spare_places : PlaceTable → ℕ
spare_places table = min (spare_heads table.newest) (vec_capacity table.links - vec_len table.links)
