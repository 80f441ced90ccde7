use Rattle.std.proofs.Common.{length, refl, ap, arith}
use Rattle.depot_base.specs.declared.record.Record.TheVariants.{Held}
use Rattle.depot_laws.proofs.records.LawfulRecords.{IsRecord-Held}
use Rattle.depot_readings.proofs.GrowthLaws.{one_read}
use Rattle.depot_readings.proofs.RecordTextLaws.{held_long}
use Rattle.depot_readings.proofs.growth.Growth.held.Goals as goal

pub unencoded-requires : goal.unencoded-requires
unencoded-requires c = one_read _ (Held c.args.value) _ refl (IsRecord-Held c.args.value c.bytes.ensures.value) c.requires.hash (omega (arith, c.tagged_size-bytes.ensures.size, held_long c.args.value, ap length c.bytes.ensures.same))
