use Rattle.std.proofs.Common.{sym, ◌∙◌}
use Rattle.depot_gossip.proofs.ValueLaws.{finds_sent, finds_unheld, finds_held}
use Rattle.depot_gossip.proofs.candidate.value_behind.Goals as goal

pub returns-then-has_hash : goal.returns-then-has_hash
returns-then-has_hash g c = finds_sent (g.R.NodeState.records c.args.node.now) c.args.hashes.now.keys c.args.name.now (sym c.has_hash.ensures ∙ c.if-has_hash.true)

pub returns-in_default : goal.returns-in_default
returns-in_default g c = finds_unheld (g.R.NodeState.records c.args.node.now) c.args.hashes.now.keys c.args.name.now c.in_default.ensures

pub returns : goal.returns
returns g c = finds_held (g.R.NodeState.records c.args.node.now) c.args.hashes.now.keys c.add_hash.new.hashes.keys c.args.name.now c.in-Some.value.now (sym c.has_hash.ensures ∙ c.if-has_hash.false) c.in-Some.ensures c.in_ok-add_hash.ensures
