-- The latest writes of several keys are one list for each: of a history of nothing, an empty one for each key, no fewer and no more.
use Rattle.std.proofs.Common.{ℕ, List, [], ◌∷◌}
use Rattle.depot_model.specs.updates.Order.{AreLatestIn}
use Rattle.depot_graph.specs.LatestOfEach.{AreLatestOfEach}

none_yet : (key : List ℕ) → AreLatestIn key [] []
none_yet key = record { all = λ u l. l.known; only = λ u never. absurd never; rising = tt }

one_for_each : AreLatestOfEach ((107 ∷ []) ∷ (108 ∷ []) ∷ []) [] ([] ∷ [] ∷ [])
one_for_each = (none_yet (107 ∷ []), (none_yet (108 ∷ []), tt))

not_fewer : AreLatestOfEach ((107 ∷ []) ∷ (108 ∷ []) ∷ []) [] ([] ∷ []) → ⊥
not_fewer a = a.1

not_more : AreLatestOfEach ((107 ∷ []) ∷ []) [] ([] ∷ [] ∷ []) → ⊥
not_more a = a.1
