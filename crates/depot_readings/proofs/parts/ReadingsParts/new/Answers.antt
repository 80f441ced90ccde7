use Rattle.depot_readings.proofs.NoRecords.{readings_none}
use Rattle.depot_readings.proofs.parts.ReadingsParts.new.Goals as goal

pub returns-clause-readings : goal.returns-clause-readings
returns-clause-readings g c = readings_none _ _ _ _ _ _ _ _ c.requires c.new.ensures (c.new-2.ensures c.args.state.me) c.new-3.ensures.none c.new-4.ensures.none c.new-5.ensures c.new-6.ensures.ids c.new-7.ensures
