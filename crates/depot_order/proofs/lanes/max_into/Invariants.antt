use Rattle.std.proofs.Common.{◌≡◌, ◌≤◌, ◌<◌, ℕ, max, get_or}
use Rattle.depot_order.proofs.lanes.max_into.Given as goal

abbrev pub invariant-loop-i : goal.invariant-loop-i
invariant-loop-i l = record {
  joined : (k : ℕ) → k < l.i → get_or l.a k 0 ≡ max (get_or l.initial.a k 0) (get_or l.b k 0);
  left : (k : ℕ) → l.i ≤ k → get_or l.a k 0 ≡ get_or l.initial.a k 0;
}
