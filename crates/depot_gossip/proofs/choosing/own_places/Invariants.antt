use Rattle.std.proofs.Common.{◌≡◌, take}
use Rattle.std.specs.List.{filter}
use Rattle.depot_gossip.specs.Choices.{is_of_at}
use Rattle.depot_gossip.proofs.choosing.own_places.Given as goal

abbrev pub invariant-loop-place : goal.invariant-loop-place
invariant-loop-place g l = l.own ≡ filter (is_of_at (g.R.NodeState.stands l.node).me (g.R.NodeState.records l.node)) (take l.place-index l.places)
