use Rattle.std.proofs.Common.{length, refl, ap, arith}
use Rattle.depot_base.specs.declared.record.Record.TheVariants.{Conviction}
use Rattle.depot_laws.proofs.records.LawfulRecords.{IsRecord-Conviction}
use Rattle.depot_readings.proofs.GrowthLaws.{one_made}
use Rattle.depot_readings.proofs.RecordTextLaws.{record_short}
use Rattle.depot_readings.proofs.growth.Growth.conviction.Goals as goal

pub encode_conviction-requires : goal.encode_conviction-requires
encode_conviction-requires c = IsRecord-Conviction c.args.proof c.requires.proof

pub size_of-bytes-requires : goal.size_of-bytes-requires
size_of-bytes-requires c = let short = record_short (Conviction c.args.proof) (IsRecord-Conviction c.args.proof c.requires.proof) in omega (arith, short, ap length c.as_slice.ensures, ap length c.in_ok-text.ensures)

pub invariant_of-result : goal.invariant_of-result
invariant_of-result c =
    one_made _ (Conviction c.args.proof) _ c.in_ok-texts.texts c.in_ok-text.text refl refl (IsRecord-Conviction c.args.proof c.requires.proof) tt (omega (arith, c.size_of-bytes.ensures.size, ap length c.as_slice.ensures)) c.in_ok-texts.ensures c.in_ok-text.ensures
