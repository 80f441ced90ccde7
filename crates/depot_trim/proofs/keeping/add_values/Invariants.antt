use Rattle.std.proofs.Common.{◌≡◌, ℕ, Bool, List, ◌||◌, take}
use Rattle.std.specs.List.{list_any}
use Rattle.depot_model.specs.journals.Journal.{held}
use Rattle.depot_readings.specs.Named.{is_value_named}
use Rattle.depot_kept.specs.Values as values
use Rattle.depot_trim.specs.Trimmings.{kept_of}
use Rattle.depot_trim.proofs.keeping.add_values.Given as goal

abbrev pub invariant-loop-name : goal.invariant-loop-name
invariant-loop-name g l = (wants : List ℕ → ℕ → Bool) → ((h : List ℕ) → values.held_in l.initial.values h ≡ kept_of (held (g.N.NodeState.records l.node)) wants h) → (h : List ℕ) → values.held_in l.values h ≡ kept_of (held (g.N.NodeState.records l.node)) (λ k size. wants k size || list_any (λ n. is_value_named n k size) (take l.name-index l.name-items)) h
