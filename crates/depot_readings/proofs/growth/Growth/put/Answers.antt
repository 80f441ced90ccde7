use Rattle.std.proofs.Common.{length, refl, ap, arith}
use Rattle.depot_base.specs.declared.record.Record.TheVariants.{OwnPut}
use Rattle.depot_readings.proofs.GrowthLaws.{one_made}
use Rattle.depot_readings.proofs.RecordTextLaws.{text_short}
use Rattle.depot_readings.proofs.growth.Growth.put.Goals as goal

pub size_of-bytes-requires : goal.size_of-bytes-requires
size_of-bytes-requires c = let short = text_short (OwnPut c.args.update c.args.values) c.args.text c.requires.text in omega (arith, short, ap length c.as_slice.ensures)

pub invariant_of-result : goal.invariant_of-result
invariant_of-result c =
    one_made _ (OwnPut c.args.update c.args.values) _ c.in_ok-texts.texts c.args.text refl refl c.requires.text.fits c.requires.id (omega (arith, c.size_of-bytes.ensures.size, ap length c.as_slice.ensures)) c.in_ok-texts.ensures c.requires.text.is
