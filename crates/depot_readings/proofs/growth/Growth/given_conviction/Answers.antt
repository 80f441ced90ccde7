use Rattle.std.proofs.Common.{length, refl, ap, arith}
use Rattle.depot_base.specs.declared.record.Record.TheVariants.{Conviction}
use Rattle.depot_laws.proofs.records.LawfulRecords.{IsRecord-Conviction}
use Rattle.depot_readings.proofs.GrowthLaws.{one_read}
use Rattle.depot_readings.proofs.RecordTextLaws.{conviction_long, record_short}
use Rattle.depot_readings.proofs.growth.Growth.given_conviction.Goals as goal

pub tagged_size-requires : goal.tagged_size-requires
tagged_size-requires c = let p = c.args.proof in let short = record_short (Conviction p) (IsRecord-Conviction p c.requires.proof) in omega (arith, short, conviction_long p, ap length c.requires.text)

pub unencoded-requires : goal.unencoded-requires
unencoded-requires c = let p = c.args.proof in one_read _ (Conviction p) _ refl (IsRecord-Conviction p c.requires.proof) tt (omega (arith, c.tagged_size.ensures.size, conviction_long p, ap length c.requires.text))
