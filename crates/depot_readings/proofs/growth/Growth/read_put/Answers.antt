use Rattle.std.proofs.Common.{length, refl, ap, arith}
use Rattle.depot_base.specs.declared.record.Record.TheVariants.{OwnPut}
use Rattle.depot_readings.proofs.GrowthLaws.{one_read}
use Rattle.depot_readings.proofs.RecordTextLaws.{text_short}
use Rattle.depot_readings.proofs.growth.Growth.read_put.Goals as goal

pub size_of-requires : goal.size_of-requires
size_of-requires c = text_short (OwnPut c.args.update c.args.values) c.args.text.now c.requires.text

pub unencoded-requires : goal.unencoded-requires
unencoded-requires c = one_read _ (OwnPut c.args.update c.args.values) _ refl c.requires.text.fits c.requires.id (omega (arith, c.size_of.ensures.size, ap length c.requires.text.is))
