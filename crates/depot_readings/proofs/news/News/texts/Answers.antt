use Rattle.std.proofs.Common.{◌≡◌, List, map, sym, ap, subst, ◌∙◌}
use Rattle.std.proofs.lemmas.Result.{IfOk-weaker}
use Rattle.depot_model.specs.texts.Records.{text_of_record}
use Rattle.depot_model.specs.checks.Vouching.{records_of}
use Rattle.depot_readings.specs.NewRecords.{AreWritten, records_in, vouchers_of}
use Rattle.depot_readings.specs.declared.news.NewVoucher.{NewVoucher}
use Rattle.depot_readings.specs.declared.news.News.{News}
use Rattle.depot_readings.proofs.GrowthLaws.{vouchers_written}
use Rattle.depot_readings.proofs.news.News.texts.Goals as goal

pub returns-in-Vouchers : goal.returns-in-Vouchers
returns-in-Vouchers c =
    IfOk-weaker c.voucher_texts.result (λ texts. texts.items ≡ map text_of_record (records_of (vouchers_of c.as_slice.result.now))) (λ texts. AreWritten (records_in c.args.self.now) texts)
    (λ texts are. subst (λ (n : News). AreWritten (records_in n) texts) (sym c.in-Vouchers.is)
    (vouchers_written (vouchers_of c.in-Vouchers.vouchers) texts.items (are ∙ ap (λ (xs : List NewVoucher). map text_of_record (records_of (vouchers_of xs))) c.as_slice.ensures)))
    c.voucher_texts.ensures
