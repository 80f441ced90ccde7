use Rattle.std.proofs.Common.{rules}
use Rattle.depot_laws.proofs.records.Rosters.{is_listed}
use Rattle.depot_model.specs.checks.Own.{leaf_count}
use Rattle.depot_node.proofs.node.NodeLocalNode.leaf_count.Goals as goal

pub leaves_of_tree-requires : goal.leaves_of_tree-requires
leaves_of_tree-requires g c =
    let n = c.args.self.now in
    (is_listed n.store.listed n.store.me c.in-Some.key n.formed (search rules)).height

pub returns-in-Some : goal.returns-in-Some
unfolding leaf_count
returns-in-Some g c = search rules
