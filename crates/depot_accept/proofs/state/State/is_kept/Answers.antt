use Rattle.std.proofs.Common.{ℕ, ap, ◌∙◌}
use Rattle.std.specs.Prelude.{Option}
use Rattle.std.specs.Option.{is_some}
use Rattle.depot_accept.proofs.KeptStatements.{update_kept, voucher_kept, own_or, own_or_kept}
use Rattle.depot_accept.proofs.state.State.is_kept.Goals as goal

pub returns-in-Update : goal.returns-in-Update
returns-in-Update g c = λ J st. update_kept J _ _ c.args.statement.now c.in-Update.field-0 c.args.id.now c.is_some.result c.self.view_is st c.in-Update.is c.requires.id (c.is_some.ensures ∙ ap (λ (o : Option ℕ). is_some o) c.find.ensures)

pub returns-then-is_own_voucher : goal.returns-then-is_own_voucher
returns-then-is_own_voucher g c = λ J st. voucher_kept J _ _ c.args.statement.now c.in-Voucher.voucher c.is_own_voucher.result c.self.view_is st c.in-Voucher.is (own_or _ _ c.in-Voucher.voucher _ c.is_own_voucher.result c.self.view_is c.if-is_own_voucher.true c.is_own_voucher.ensures)

pub returns-else-is_own_voucher : goal.returns-else-is_own_voucher
returns-else-is_own_voucher g c = λ J st. voucher_kept J _ _ c.args.statement.now c.in-Voucher.voucher c.holds.result c.self.view_is st c.in-Voucher.is (own_or_kept _ _ c.in-Voucher.voucher c.holds.result c.is_own_voucher.result _ c.self.view_is c.if-is_own_voucher.false c.is_own_voucher.ensures c.holds.ensures)
