use Rattle.std.proofs.Common.{sym, ◌∙◌}
use Rattle.depot_graph.specs.Kept.{updates_in}
use Rattle.depot_graph.proofs.Known.{some_is_in}
use Rattle.depot_tests_orders.proofs.graphs.knows.Goals as goal

pub returns : goal.returns
returns c = λ yes. some_is_in c.args.id.now (updates_in c.args.graph.now.items.entries) c.find.result c.find.ensures (sym c.is_some.ensures ∙ yes)
