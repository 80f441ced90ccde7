use Rattle.std.proofs.Common.{◌≡◌, ◌∙◌, ◌+◌, ◌*◌, ℕ, sym, subst, arith, take, true}
use Rattle.depot_order.specs.Lanes.{all_leq}
use Rattle.depot_order.proofs.LaneLaws.{all_leq-part}
use Rattle.depot_order.proofs.lanes.skip_lanes.Goals as goal

pub loop-lane-preserved : goal.loop-lane-preserved
loop-lane-preserved c =
    let xs = c.args.a.now in
    let ys = c.args.b.now in
    let at = c.loop-lane.lane * 8 in
    let next : at + 8 ≡ (c.loop-lane.lane + 1) * 8 = omega arith in
    subst (λ (n : ℕ). all_leq (take n xs) (take n ys) ≡ true) next
    (all_leq-part xs ys at (at + 8) c.requires (omega arith) c.loop-lane.invariant (sym c.is_leq.ensures ∙ c.if-not-is_leq.false))
