use Rattle.std.proofs.Common.{◌≡◌, take}
use Rattle.depot_order.specs.Lanes.{all_leq}
use Rattle.depot_order.proofs.lanes.is_leq.Given as goal

abbrev pub invariant-loop-i : goal.invariant-loop-i
invariant-loop-i l = l.all ≡ all_leq (take l.i l.a) (take l.i l.b)
