use Rattle.std.proofs.Common.{◌≡◌, ◌≤◌, ◌+◌, ℕ, length, take, get_or}
use Rattle.std.specs.Vec.{vec_capacity}
use Rattle.depot_order.specs.LatestItems.{AreKept}
use Rattle.depot_order.proofs.latest.leave_out.Given as goal

abbrev pub invariant-loop-i : goal.invariant-loop-i
invariant-loop-i g l = record {
  low : l.kept ≤ l.i;
  long : length l.list.items ≡ length l.initial.list.items;
  kept : AreKept (λ a. g.P.Precedes.precedes l.order a l.item → ⊥) (take l.i l.initial.list.items) (take l.kept l.list.items);
  rest : (k : ℕ) → l.i ≤ k → get_or l.list.items k 0 ≡ get_or l.initial.list.items k 0;
  capacity : vec_capacity l.list ≡ vec_capacity l.initial.list;
  cost : l.steps ≡ l.initial.steps + l.i;
}
