use Rattle.std.proofs.Common.{map, true}
use Rattle.depot_model.specs.texts.Texts.{id_of_update}
use Rattle.depot_graph.specs.Kept.{updates_in}
use Rattle.depot_graph.proofs.Known.{prev_is_known}
use Rattle.depot_tests_orders.proofs.graphs.knows_prev.Goals as goal

pub returns-then-is_zeros : goal.returns-then-is_zeros
returns-then-is_zeros c = λ yes. prev_is_known c.args.update.now (map id_of_update (updates_in c.args.graph.now.items.entries)) true c.if-is_zeros.ensures (λ no. absurd cc)

pub returns : goal.returns
returns c = λ yes. prev_is_known c.args.update.now (map id_of_update (updates_in c.args.graph.now.items.entries)) _ c.if-is_zeros.ensures (λ no. c.knows.ensures yes)
