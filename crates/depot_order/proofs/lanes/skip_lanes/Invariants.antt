use Rattle.std.proofs.Common.{◌≡◌, ◌*◌, take, true}
use Rattle.depot_order.specs.Lanes.{all_leq}
use Rattle.depot_order.proofs.lanes.skip_lanes.Given as goal

abbrev pub invariant-loop-lane : goal.invariant-loop-lane
invariant-loop-lane l = all_leq (take (l.lane * 8) l.a) (take (l.lane * 8) l.b) ≡ true
