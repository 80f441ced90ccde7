use Rattle.std.proofs.Common.{ℕ, ◌<◌, get_or}
use Rattle.depot_order.proofs.latest.place_among.Given as goal

abbrev pub invariant-loop-i : goal.invariant-loop-i
invariant-loop-i g l = (k : ℕ) → k < l.i → g.P.Precedes.listed l.order l.item (get_or l.list k 0) → ⊥
