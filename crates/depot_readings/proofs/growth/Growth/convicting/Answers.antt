use Rattle.std.proofs.Common.{length, ap, arith}
use Rattle.depot_base.specs.declared.record.Record.TheVariants.{Foreign, Conviction}
use Rattle.depot_laws.proofs.records.LawfulRecords.{IsRecord-Conviction, IsRecord-Foreign}
use Rattle.depot_readings.proofs.GrowthLaws.{both_made}
use Rattle.depot_readings.proofs.RecordTextLaws.{foreign_long, record_short}
use Rattle.depot_readings.proofs.growth.Growth.convicting.Goals as goal

pub encode_conviction-requires : goal.encode_conviction-requires
encode_conviction-requires c = IsRecord-Conviction c.args.proof c.requires.proof

pub size_of-requires : goal.size_of-requires
size_of-requires c = let short = record_short (Conviction c.args.proof) (IsRecord-Conviction c.args.proof c.requires.proof) in omega (arith, short, ap length c.as_slice.ensures, ap length c.in_ok-proof_text.ensures)

pub tagged_size-requires : goal.tagged_size-requires
tagged_size-requires c = let s = c.args.signed in let short = record_short (Foreign s) (IsRecord-Foreign s c.requires.signed) in omega (arith, short, foreign_long s, ap length c.requires.text)

pub invariant_of-result : goal.invariant_of-result
invariant_of-result c =
    both_made c.args.proof c.args.signed c.args.id c.args.parents _ c.in_ok-texts.texts c.in_ok-proof_text.proof_text c.requires.proof c.requires.signed c.requires.id (omega (arith, c.size_of.ensures.size, c.tagged_size.ensures.size, ap length c.as_slice.ensures, ap length c.requires.text)) c.in_ok-proof_text.ensures
    (c.in_ok-texts.ensures c.args.signed)
