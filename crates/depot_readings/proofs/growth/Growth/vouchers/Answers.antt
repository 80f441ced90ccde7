use Rattle.std.proofs.Common.{◌≡◌, ◌+◌, List, Some, length, refl, sym, ap, subst, ◌∙◌, arith}
use Rattle.depot_readings.specs.NewRecords.{IsGrowth, vouchers_of}
use Rattle.depot_model.specs.checks.Vouching.{records_of}
use Rattle.depot_readings.specs.declared.news.NewVoucher.{NewVoucher}
use Rattle.depot_readings.specs.declared.news.News.TheVariants as news
use Rattle.depot_base.specs.declared.record.Record.TheVariants.{OwnVoucher}
use Rattle.depot_readings.proofs.VoucherTexts.{all_encoded, all_vouchers, encoded_as, few_bytes, next_fits, none_encoded, one_encoded}
use Rattle.depot_readings.proofs.RecordTextLaws.{record_short}
use Rattle.depot_readings.proofs.VoucherRecords.{none_left}
use Rattle.depot_readings.proofs.growth.Growth.vouchers.Goals as goal

pub loop-voucher-init : goal.loop-voucher-init
loop-voucher-init c =
    let made = c.into_iter-voucher-iterator.ensures.into_iter_gives in
    record {
      count = omega (arith, ap length made.0, made.1, c.args.vouchers.ok.0);
      encoded = none_encoded _ _ _ _ made.0 c.in_ok-items.ensures.items c.in_ok-texts.ensures.items;
    }

pub encode_own_voucher-requires : goal.encode_own_voucher-requires
encode_own_voucher-requires c = next_fits _ _ _ _ _ _ c.in-Some.voucher c.requires.texts c.in-Some.ensures.steps.0 c.loop-voucher.invariant.encoded

pub size_of-bytes-requires : goal.size_of-bytes-requires
size_of-bytes-requires c =
    let short = record_short (OwnVoucher c.in-Some.voucher) (next_fits _ _ _ _ _ _ c.in-Some.voucher c.requires.texts c.in-Some.ensures.steps.0 c.loop-voucher.invariant.encoded) in
    omega (arith, short, ap length c.as_slice-in-loop-voucher.ensures, ap length c.in_ok-text.ensures)

pub overflow_add-bytes : goal.overflow_add-bytes
overflow_add-bytes c = omega (arith, c.size_of-bytes.ensures.small, few_bytes _ _ _ _ _ _ c.in-Some.voucher c.requires.few c.in-Some.ensures.steps.0 c.loop-voucher.invariant.encoded)

pub loop-voucher-preserved : goal.loop-voucher-preserved
loop-voucher-preserved c =
    let v = c.in-Some.voucher in
    let fits = next_fits _ _ _ _ _ _ v c.requires.texts c.in-Some.ensures.steps.0 c.loop-voucher.invariant.encoded in
    let item : NewVoucher = record { voucher = v; id = c.id_in_own_voucher-id.result } in
    let own = c.id_in_own_voucher-id.ensures v (c.as_slice.ensures ∙ c.in_ok-text.ensures) in
    let size : c.size_of-bytes.result ≡ 5 + length c.in_ok-text.text = omega (arith, c.size_of-bytes.ensures.size, ap length c.as_slice-in-loop-voucher.ensures) in
    let next = one_encoded _ _ _ _ _ _ c.size_of-bytes.result v item c.in_ok-text.text c.in-Some.ensures.steps.0 c.loop-voucher.invariant.encoded refl own (record { fits = fits; is = c.in_ok-text.ensures }) size c.size_of-bytes.ensures.small in
    record {
      count = omega (arith, ap length c.in-Some.ensures.steps.0, c.in-Some.ensures.steps.1, c.loop-voucher.invariant.count);
      encoded = encoded_as _ _ _ _ _ _ _ next c.in_ok-push.ensures.items c.in_ok-push-2.ensures.items;
    }

pub invariant_of-result : goal.invariant_of-result
invariant_of-result c = subst (λ (xs : List NewVoucher). IsGrowth (news.Vouchers xs) c.loop-voucher.bytes (Some c.loop-voucher.texts)) (sym c.from_vec.ensures)
    (all_encoded _ _ _ c.loop-voucher.texts _ c.requires.texts c.requires.few (none_left _ (sym c.loop-voucher.invariant.count ∙ c.in-None.ensures.steps.0)) c.loop-voucher.invariant.encoded)

pub returns : goal.returns
returns c = ap (λ (xs : List NewVoucher). records_of (vouchers_of xs)) c.from_vec.ensures ∙ ap records_of (all_vouchers _ _ _ _ _ (none_left _ (sym c.loop-voucher.invariant.count ∙ c.in-None.ensures.steps.0)) c.loop-voucher.invariant.encoded)
