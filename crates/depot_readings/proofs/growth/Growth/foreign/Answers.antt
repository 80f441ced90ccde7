use Rattle.std.proofs.Common.{length, refl, ap, arith}
use Rattle.depot_base.specs.declared.record.Record.TheVariants.{Foreign}
use Rattle.depot_laws.proofs.records.LawfulRecords.{IsRecord-Foreign}
use Rattle.depot_readings.proofs.GrowthLaws.{one_read}
use Rattle.depot_readings.proofs.RecordTextLaws.{foreign_long, record_short}
use Rattle.depot_readings.proofs.growth.Growth.foreign.Goals as goal

pub tagged_size-requires : goal.tagged_size-requires
tagged_size-requires c = let s = c.args.signed in let short = record_short (Foreign s) (IsRecord-Foreign s c.requires.signed) in omega (arith, short, foreign_long s, ap length c.requires.text)

pub unencoded-requires : goal.unencoded-requires
unencoded-requires c = let s = c.args.signed in one_read _ (Foreign s) _ refl (IsRecord-Foreign s c.requires.signed) c.requires.id (omega (arith, c.tagged_size.ensures.size, foreign_long s, ap length c.requires.text))
