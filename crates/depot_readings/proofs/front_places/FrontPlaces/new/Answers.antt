use Rattle.depot_readings.proofs.FrontPlaceLaws.{none_in_front}
use Rattle.depot_readings.proofs.front_places.FrontPlaces.new.Goals as goal

pub returns : goal.returns
returns c = none_in_front _ c.new.ensures.items c.new-2.ensures
