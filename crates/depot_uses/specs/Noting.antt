-- What a note does to a node.
use Rattle.std.specs.Prelude.{◌≡◌, ℕ, List, ◌++◌}
use Rattle.depot_base.specs.Writes.{one_change}
use Rattle.depot_model.specs.checks.Putting.{put_records}
use Rattle.depot_model.specs.declared.node_state.NodeState.{Ghosts}

-- The journal has grown by the next own update, which gives the key this value.
abbrev pub HasNoted : {N : Type 0} → Ghosts N → N → N → List ℕ → List ℕ → Type 0
HasNoted g old new key value = g.records new ≡ g.records old ++ put_records (g.stands old) (g.records old) (one_change key value)
