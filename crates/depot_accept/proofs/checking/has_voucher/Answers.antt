use Rattle.std.proofs.Common.{sym, ◌∙◌}
use Rattle.depot_base.specs.declared.statement.Statement.TheVariants as statements
use Rattle.depot_model.specs.texts.Texts.{IsStatement}
use Rattle.depot_accept.specs.OwnVouchers.{has_body_of_voucher}
use Rattle.depot_accept.proofs.KeptStatements.{each_at, any_here, any_later, any_nowhere, voucher_bodies}
use Rattle.depot_accept.proofs.checking.has_voucher.Goals as goal

pub returns-then-is_same : goal.returns-then-is_same
returns-then-is_same c =
    let text = each_at (λ v. IsStatement (statements.Voucher v)) c.args.vouchers.now c.loop-own.own-index c.own-item.result c.requires.texts c.loop-own-test.true c.own-item.is in
    let body = voucher_bodies c.args.voucher.now c.own-item.result c.is_same.result text c.requires.text c.is_same.ensures in
    sym (c.loop-own.invariant ∙ any_here (has_body_of_voucher c.args.voucher.now) c.args.vouchers.now c.loop-own.own-index c.own-item.result c.loop-own-test.true c.own-item.is (sym body ∙ c.if-is_same.true))

pub loop-own-preserved : goal.loop-own-preserved
loop-own-preserved c =
    let text = each_at (λ v. IsStatement (statements.Voucher v)) c.args.vouchers.now c.loop-own.own-index c.own-item.result c.requires.texts c.loop-own-test.true c.own-item.is in
    let body = voucher_bodies c.args.voucher.now c.own-item.result c.is_same.result text c.requires.text c.is_same.ensures in
    c.loop-own.invariant ∙ any_later (has_body_of_voucher c.args.voucher.now) c.args.vouchers.now c.loop-own.own-index c.own-item.result c.loop-own-test.true c.own-item.is (sym body ∙ c.if-is_same.false)

pub returns : goal.returns
returns c = sym (c.loop-own.invariant ∙ any_nowhere (has_body_of_voucher c.args.voucher.now) c.args.vouchers.now c.loop-own.own-index c.loop-own-test.false)
