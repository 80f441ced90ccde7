use Rattle.std.proofs.Common.{◌≡◌, ◌++◌, take}
use Rattle.depot_readings.specs.FrontPlaces.{with_place}
use Rattle.depot_readings.proofs.front_places.push_with_place.Given as goal

abbrev pub invariant-loop-id : goal.invariant-loop-id
invariant-loop-id l = l.places.items ≡ l.initial.places.items ++ with_place l.place (take l.id-index l.ids)
