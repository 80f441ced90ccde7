use Rattle.std.proofs.Common.{◌∙◌, rules}
use Rattle.depot_decide.proofs.VoucherGroups.{one_made, all_made}
use Rattle.depot_decide.proofs.voucher_decision.vouchers_for.Goals as goal

pub loop-group-preserved : goal.loop-group-preserved
loop-group-preserved c =
    let steps = c.in-Some.ensures.steps in
    let kept = c.loop-group.invariant in (
      search rules,
      tt,
      steps.0 ∙ kept.2,
      one_made c.args.node c.args.seq c.loop-group.seq c.args.ids.now _ c.in-Some.group.now _ c.loop-group.vouchers.items c.push.new.self.items c.in_ok-ids.ids kept.3 steps.1.0 (rw kept.2 at steps.1.1) steps.1.2 c.in_ok-ids.ensures c.in_ok-push.ensures.items,
    )

pub returns : goal.returns
returns c = all_made c.args.node c.args.seq c.loop-group.seq c.args.ids.now _ c.loop-group.vouchers.items c.loop-group.invariant.3 c.in-None.ensures.steps.1.0
