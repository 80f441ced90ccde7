use Rattle.std.proofs.Common.{◌≡◌, List, take}
use Rattle.depot_base.specs.declared.update.Update.{Update}
use Rattle.depot_model.specs.readers.Pruning.{pruned}
use Rattle.depot_graph.specs.Kept.{updates_in}
use Rattle.depot_accept.specs.StateView.{IsStateOf, setting}
use Rattle.depot_trim.specs.Trimmings.{given_up}
use Rattle.depot_trim.proofs.filling.state_without.Given as goal

abbrev pub invariant-loop-place : goal.invariant-loop-place
invariant-loop-place g l = record {
  state : (ts : List Update) → l.trimmed ≡ given_up ts (updates_in l.graph.items.entries) → IsStateOf (pruned ts (take l.place (g.R.NodeState.records l.node))) l.state;
  stands : setting g.S.Scheme.verifies l.state ≡ g.R.NodeState.stands l.node;
}
