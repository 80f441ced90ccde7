use Rattle.depot_base.specs.declared.record.Record.TheVariants.{OwnVoucher}
use Rattle.depot_readings.proofs.RecordTextLaws.{text_short}
use Rattle.depot_readings.proofs.growth.Growth.read_voucher.Goals as goal

pub size_of-requires : goal.size_of-requires
size_of-requires c = text_short (OwnVoucher c.args.voucher) c.args.text.now c.requires.text
