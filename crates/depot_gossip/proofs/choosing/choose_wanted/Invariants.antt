use Rattle.std.proofs.Common.{List, ◌++◌, take}
use Rattle.std.specs.List.{flat_map}
use Rattle.depot_model.specs.exchange.Bundle.{Parcel, wanted_parcel}
use Rattle.depot_gossip.specs.Choices.{IsChosenFrom}
use Rattle.depot_gossip.proofs.choosing.choose_wanted.Given as goal

abbrev pub invariant-loop-hash : goal.invariant-loop-hash
invariant-loop-hash g l = (xs : List Parcel) → IsChosenFrom (g.R.NodeState.stands l.node).me (g.R.NodeState.records l.node) l.room xs l.initial.choice
    → IsChosenFrom (g.R.NodeState.stands l.node).me (g.R.NodeState.records l.node) l.room (xs ++ flat_map (wanted_parcel (g.R.NodeState.records l.node) l.hashes.keys) (take l.hash-index l.wanted)) l.choice
