use Rattle.depot_graph.specs.Kept.{updates_in}
use Rattle.depot_graph.proofs.ChainLeaves.{at_within}
use Rattle.depot_queries.proofs.tails.are_few_behind.Goals as goal

pub spot-last-requires : goal.spot-last-requires
spot-last-requires c = at_within (updates_in c.args.graph.now.items.entries) c.tip.result c.loop-chain.chain c.tip.ensures.place c.tip.ensures.own
