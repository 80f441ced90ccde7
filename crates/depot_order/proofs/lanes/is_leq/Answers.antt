use Rattle.std.proofs.Common.{◌∙◌, sym, ap, arith, ◌&&◌, nat_le, get_or, Bool}
use Rattle.depot_order.proofs.LaneLaws.{all_leq-take_more, all_leq-whole}
use Rattle.depot_order.proofs.lanes.is_leq.Goals as goal

pub loop-i-preserved : goal.loop-i-preserved
loop-i-preserved c =
    let i = c.loop-i.i in
    ap (λ (all : Bool). all && nat_le (get_or c.args.a.now i 0) (get_or c.args.b.now i 0)) c.loop-i.invariant ∙ sym (all_leq-take_more c.args.a.now c.args.b.now i (omega arith) (omega arith))

pub returns : goal.returns
returns c = c.loop-i.invariant ∙ all_leq-whole c.args.a.now c.args.b.now c.loop-i.i (omega arith) (omega arith)
