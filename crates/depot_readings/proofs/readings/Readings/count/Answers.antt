use Rattle.std.proofs.Common.{length, ap, ◌∙◌}
use Rattle.depot_readings.specs.ReadingsView.{Known}
use Rattle.depot_readings.proofs.ReadingsLaws.{lawful_seen}
use Rattle.depot_readings.proofs.readings.Readings.count.Goals as goal

pub returns-clause-count : goal.returns-clause-count
returns-clause-count g c = c.self.invariant.1.records ∙ ap (λ (v : Known). length v.records) c.self.view_is

pub returns-clause-lawful : goal.returns-clause-lawful
returns-clause-lawful g c = lawful_seen g.S.Scheme.verifies _ _ c.self.view_is c.self.invariant.1.lawful
