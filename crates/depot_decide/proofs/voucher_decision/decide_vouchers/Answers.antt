use Rattle.std.proofs.Common.{◌≡◌, List, length, sym, ap, subst, ◌∙◌, arith}
use Rattle.std.specs.List.{AllByRecursion}
use Rattle.depot_base.specs.declared.record.Record.TheVariants.{OwnVoucher}
use Rattle.depot_base.specs.declared.voucher.Voucher.{Voucher}
use Rattle.depot_model.specs.checks.Checks.{Setting}
use Rattle.depot_model.specs.texts.Records.{IsRecord}
use Rattle.depot_model.specs.checks.Vouching.{new_vouchers, records_of}
use Rattle.depot_laws.proofs.own_updates.OwnTexts.{few_own, lawful_is_short}
use Rattle.depot_readings.specs.ReadingsView.{standing}
use Rattle.depot_decide.proofs.VoucherGroups.{group_count}
use Rattle.depot_decide.proofs.VoucherPlans.{are_new_vouchers, few_ids, length-new_vouchers, own_with, planned, too_few_leaves, vouchers_fit}
use Rattle.depot_decide.proofs.voucher_decision.decide_vouchers.Given.{Over}
use Rattle.depot_decide.proofs.voucher_decision.decide_vouchers.Goals as goal
use Rattle.depot_decide.proofs.voucher_decision.decide_vouchers.Goals.{In_ok-vouchers}

pub overflow_cast-count : goal.overflow_cast-count
overflow_cast-count g c =
    let few = few_ids (standing g.S.Scheme.verifies c.args.readings.now) c.args.readings.now.records c.args.ids.now c.state-state.ensures.lawful c.requires.apart c.requires.foreign in
    omega (arith, c.div_ceil-count.ensures, few)

pub overflow_add-own : goal.overflow_add-own
overflow_add-own g c =
    let here = standing g.S.Scheme.verifies c.args.readings.now in
    let J = c.args.readings.now.records in
    omega (arith, c.div_ceil-count.ensures, few_ids here J c.args.ids.now c.state-state.ensures.lawful c.requires.apart c.requires.foreign, c.totals.ensures.own, few_own J, lawful_is_short here J c.state-state.ensures.lawful)

pub returns-then-not-has_leaves-clause-refused : goal.returns-then-not-has_leaves-clause-refused
returns-then-not-has_leaves-clause-refused g c =
    let J = c.args.readings.now.records in
    too_few_leaves (standing g.S.Scheme.verifies c.args.readings.now) J c.args.ids.now c.totals.result.now.own _ c.has_leaves.result c.totals.ensures.own
    (own_with J c.args.ids.now c.totals.result.now.own c.div_ceil-count.result c.totals.ensures.own c.div_ceil-count.ensures) c.has_leaves.ensures c.if-not-has_leaves.true

pub vouchers_for-requires : goal.vouchers_for-requires
vouchers_for-requires g c =
    let here = standing g.S.Scheme.verifies c.args.readings.now in
    let J = c.args.readings.now.records in
    omega (arith, few_ids here J c.args.ids.now c.state-state.ensures.lawful c.requires.apart c.requires.foreign, c.totals.ensures.own, few_own J, lawful_is_short here J c.state-state.ensures.lawful)

-- the vouchers are those that the journal is to have
are_new : (g : Over) (c : In_ok-vouchers g) → c.in_ok-vouchers.vouchers.items ≡ new_vouchers c.args.readings.now.me c.args.readings.now.records c.args.ids.now
are_new g c =
    are_new_vouchers c.args.readings.now.me c.args.readings.now.records c.args.ids.now c.me.result c.totals.result.now.own c.in_ok-vouchers.vouchers.items
    (c.me.ensures ∙ ap (λ (s : Setting). s.me) c.state-state.ensures.stands) c.totals.ensures.own c.in_ok-vouchers.ensures

pub vouchers-requires-clause-texts : goal.vouchers-requires-clause-texts
vouchers-requires-clause-texts g c =
    subst (λ (vs : List Voucher). AllByRecursion (λ v. IsRecord (OwnVoucher v)) vs) (sym (are_new g (goal.at.vouchers-requires-clause-texts g c).In_ok-vouchers))
    (vouchers_fit (standing g.S.Scheme.verifies c.args.readings.now) c.args.readings.now.records c.args.ids.now c.state-state.ensures.lawful c.requires.some c.requires.apart c.requires.foreign)

pub vouchers-requires-clause-few : goal.vouchers-requires-clause-few
vouchers-requires-clause-few g c =
    let J = c.args.readings.now.records in
    let count = ap length (are_new g (goal.at.vouchers-requires-clause-few g c).In_ok-vouchers) ∙ length-new_vouchers c.args.readings.now.me J c.args.ids.now ∙ group_count c.args.ids.now in
    omega (arith, count, few_ids (standing g.S.Scheme.verifies c.args.readings.now) J c.args.ids.now c.state-state.ensures.lawful c.requires.apart c.requires.foreign)

pub returns-clause-planned : goal.returns-clause-planned
returns-clause-planned g c =
    let J = c.args.readings.now.records in
    planned (standing g.S.Scheme.verifies c.args.readings.now) J c.args.ids.now c.in_ok-growth.growth _ c.has_leaves.result c.state-state.ensures.lawful c.requires.some c.requires.foreign
    (own_with J c.args.ids.now c.totals.result.now.own c.div_ceil-count.result c.totals.ensures.own c.div_ceil-count.ensures) c.has_leaves.ensures c.if-not-has_leaves.false
    (c.in_ok-growth.ensures ∙ ap (λ (vs : List Voucher). records_of vs) (are_new g (goal.at.returns-clause-planned g c).In_ok-vouchers))
