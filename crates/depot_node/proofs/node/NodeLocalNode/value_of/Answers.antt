use Rattle.std.proofs.Common.{◌∙◌}
use Rattle.depot_queries.proofs.ReadLaws.{says_nothing}
use Rattle.depot_node.proofs.ReadLaws.{no_value_of, value_of}
use Rattle.depot_node.proofs.node.NodeLocalNode.value_of.Goals as goal

pub unreachable-requires : goal.unreachable-requires
unreachable-requires g c = says_nothing c.args.self.now.store.records c.args.key.now c.update.result.now c.args.item c.update.ensures c.requires.writes (rw c.bytes.ensures.same at c.in_default.ensures)

pub returns-in_default-named : goal.returns-in_default-named
returns-in_default-named g c = λ u is. no_value_of c.args.self.now.store.records c.args.key.now c.update.result.now u c.args.item c.in-Some.wrote c.update.ensures is (rw c.bytes.ensures.same at c.in-Some.ensures) c.in_default-named.ensures

pub returns : goal.returns
returns g c = λ u is.
    c.held_as.ensures ∙ value_of c.args.self.now.store.records c.args.key.now c.update.result.now u c.args.item c.in-Some.wrote c.in-Some-named.name c.update.ensures is (rw c.bytes.ensures.same at c.in-Some.ensures) c.in-Some-named.ensures
