use Rattle.std.proofs.Common.{arith}
use Rattle.depot_order.proofs.LaneLaws.{greater_from_entries}
use Rattle.depot_order.proofs.lanes.max_into.Goals as goal

pub returns : goal.returns
returns c = greater_from_entries c.args.a.now c.args.b.now c.loop-i.a c.requires c.loop-i.auto.a (λ k lt. c.loop-i.invariant.joined k (omega arith))
