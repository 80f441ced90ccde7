use Rattle.std.proofs.Common.{take}
use Rattle.depot_queries.specs.InFront.{AreVoucherPlaces}
use Rattle.depot_queries.proofs.in_front.places_found.Given as goal

abbrev pub invariant-loop-id : goal.invariant-loop-id
invariant-loop-id g l = AreVoucherPlaces l.readings.records (take l.id-index l.ids) l.found.items
