use Rattle.std.proofs.Common.{ℕ, List, map, take}
use Rattle.depot_model.specs.lists.Lists.{IsIn}
use Rattle.depot_model.specs.texts.Texts.{id_of_update}
use Rattle.depot_graph.specs.Kept.{updates_in}
use Rattle.depot_tests_orders.proofs.graphs.knows_entries.Given as goal

abbrev pub invariant-loop-dep : goal.invariant-loop-dep
invariant-loop-dep l = (h : List ℕ) → IsIn h (map (λ d. d.id) (take l.dep-index l.update.deps)) → IsIn h (map id_of_update (updates_in l.graph.items.entries))
