use Rattle.depot_readings.proofs.ReadingsLaws.{lawful_seen}
use Rattle.depot_readings.proofs.readings.Readings.state.Goals as goal

pub returns-clause-lawful : goal.returns-clause-lawful
returns-clause-lawful g c = lawful_seen g.S.Scheme.verifies _ _ c.self.view_is c.self.invariant.1.lawful
