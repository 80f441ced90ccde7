use Rattle.std.proofs.Common.{length, ap, ◌∙◌, arith}
use Rattle.depot_model.specs.texts.Records.{journal_bytes}
use Rattle.depot_model.specs.checks.Room.{foreign_leaves}
use Rattle.depot_laws.proofs.own_updates.OwnTexts.{lawful_is_light}
use Rattle.depot_readings.specs.ReadingsView.{Known}
use Rattle.depot_readings.proofs.ReadingsLaws.{lawful_seen}
use Rattle.depot_readings.proofs.readings.Readings.counts.Goals as goal

pub overflow_cast-bytes : goal.overflow_cast-bytes
overflow_cast-bytes g c = let light = lawful_is_light _ c.self.inside.records.items c.self.invariant.1.lawful in omega (arith, light, c.self.invariant.1.size)

pub returns-clause-counts : goal.returns-clause-counts
returns-clause-counts g c = record {
  records = c.self.invariant.1.records ∙ ap (λ (v : Known). length v.records) c.self.view_is;
  bytes = c.self.invariant.1.size ∙ ap (λ (v : Known). journal_bytes v.records) c.self.view_is;
  leaves = c.self.invariant.0.read.totals.leaves ∙ ap (λ (v : Known). length (foreign_leaves v.me v.records)) c.self.view_is;
}

pub returns-clause-lawful : goal.returns-clause-lawful
returns-clause-lawful g c = lawful_seen g.S.Scheme.verifies _ _ c.self.view_is c.self.invariant.1.lawful
