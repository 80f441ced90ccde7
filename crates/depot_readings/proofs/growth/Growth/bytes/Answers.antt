use Rattle.std.proofs.Common.{length, ap, arith}
use Rattle.depot_readings.specs.NewRecords.{records_in}
use Rattle.depot_readings.proofs.RoomLaws.{bytes_least, growth_is_small}
use Rattle.depot_readings.proofs.growth.Growth.bytes.Goals as goal

pub returns-clause-least : goal.returns-clause-least
returns-clause-least c = omega (arith, bytes_least (records_in c.self.inside.news), c.self.invariant.sum, ap length c.self.view_is)

pub returns-clause-small : goal.returns-clause-small
returns-clause-small c = growth_is_small c.self.inside.news c.self.inside.bytes c.self.inside.texts c.self.invariant
