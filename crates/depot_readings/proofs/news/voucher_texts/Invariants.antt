use Rattle.std.proofs.Common.{◌≡◌, map, take}
use Rattle.depot_model.specs.texts.Records.{text_of_record}
use Rattle.depot_model.specs.checks.Vouching.{records_of}
use Rattle.depot_readings.specs.NewRecords.{vouchers_of}
use Rattle.depot_readings.proofs.news.voucher_texts.Given as goal

abbrev pub invariant-loop-item : goal.invariant-loop-item
invariant-loop-item l = l.texts.items ≡ map text_of_record (records_of (vouchers_of (take l.item-index l.vouchers)))
