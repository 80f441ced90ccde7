use Rattle.std.proofs.Common.{refl, arith}
use Rattle.depot_base.specs.declared.record.Record.TheVariants.{Birth}
use Rattle.depot_readings.proofs.GrowthLaws.{one_read}
use Rattle.depot_readings.proofs.RecordTextLaws.{birth_long}
use Rattle.depot_readings.proofs.growth.Growth.birth.Goals as goal

pub unencoded-requires : goal.unencoded-requires
unencoded-requires c = one_read _ (Birth c.args.node c.args.roster) _ refl c.requires.text tt (omega (arith, birth_long c.args.node c.args.roster c.requires.text))
