use Rattle.depot_accept.proofs.KeptStatements.{not_own}
use Rattle.depot_accept.proofs.state.State.is_own_voucher.Goals as goal

pub returns-else-eq : goal.returns-else-eq
returns-else-eq g c = not_own _ _ c.args.voucher.now c.self.inside.me c.eq.result c.self.view_is c.self.invariant.1 c.requires c.eq.ensures c.if-eq.false
