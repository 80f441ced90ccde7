use Rattle.std.proofs.Common.{sym, ◌∙◌}
use Rattle.std.proofs.lemmas.Result.{on_ok_weaker}
use Rattle.depot_gossip.proofs.LeftIds.{left_same, left_more}
use Rattle.depot_gossip.proofs.preparing.add_unvouched.Goals as goal

pub returns-then-is_mine_vouched : goal.returns-then-is_mine_vouched
returns-then-is_mine_vouched g c = left_same (g.R.NodeState.records c.args.node.now) c.args.left.now c.args.id.now (sym c.is_mine_vouched.ensures ∙ c.if-is_mine_vouched.true)

pub returns : goal.returns
returns g c = on_ok_weaker c.push.result (λ added. left_more (g.R.NodeState.records c.args.node.now) c.args.left.now c.push.new.self c.args.id.now (sym c.is_mine_vouched.ensures ∙ c.if-is_mine_vouched.false) added) c.push.ensures.ok
