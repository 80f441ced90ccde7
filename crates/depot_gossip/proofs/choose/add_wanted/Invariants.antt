use Rattle.std.proofs.Common.{List, ◌++◌, take}
use Rattle.std.specs.List.{flat_map}
use Rattle.depot_model.specs.exchange.Bundle.{Parcel, wanted_parcel}
use Rattle.depot_streams.specs.Sendings.{Holds}
use Rattle.depot_gossip.proofs.choose.add_wanted.Given as goal

abbrev pub invariant-loop-hash : goal.invariant-loop-hash
invariant-loop-hash g l = (xs : List Parcel) → Holds (g.R.NodeState.stands l.node).me xs l.initial.sending → Holds (g.R.NodeState.stands l.node).me (xs ++ flat_map (wanted_parcel (g.R.NodeState.records l.node) l.hashes.keys) (take l.hash-index l.wanted)) l.sending
