use Rattle.std.proofs.Common.{sym, ◌∙◌}
use Rattle.depot_decide.proofs.FreshIds.{fresh_by_place}
use Rattle.depot_decide.proofs.put_decision.is_fresh.Goals as goal

pub returns-then-not-is_zeros : goal.returns-then-not-is_zeros
returns-then-not-is_zeros c = λ J is. fresh_by_place J _ c.args.id.now c.find.result c.is_none.result is c.find.ensures c.is_none.ensures (sym c.is_zeros.ensures ∙ c.if-not-is_zeros.true)
