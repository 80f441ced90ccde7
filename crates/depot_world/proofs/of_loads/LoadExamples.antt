-- Parts of a load, computed: what they are, and what they aren't.
use Rattle.std.proofs.Common.{◌≡◌, ℕ, List, [], ◌∷◌, map, refl}
use Rattle.depot_base.specs.Cursor.{numeral}
use Rattle.depot_schedule.specs.declared.event.Event.{Event}
use Rattle.depot_schedule.specs.declared.event.Event.TheVariants.{Put}
use Rattle.depot_world.specs.Loads.{begun, giver, number_at, round, state_behind, steps, taker}

abbrev twenty : List ℕ
twenty = 0 ∷ 1 ∷ 2 ∷ 3 ∷ 4 ∷ 5 ∷ 6 ∷ 7 ∷ 8 ∷ 9 ∷ 10 ∷ 11 ∷ 12 ∷ 13 ∷ 14 ∷ 15 ∷ 16 ∷ 17 ∷ 18 ∷ 19 ∷ []

-- at the end each node takes a bundle of node 1, then of node 2, and so on
givers_in_order : map giver twenty ≡ 1 ∷ 1 ∷ 1 ∷ 1 ∷ 2 ∷ 2 ∷ 2 ∷ 2 ∷ 3 ∷ 3 ∷ 3 ∷ 3 ∷ 4 ∷ 4 ∷ 4 ∷ 4 ∷ 5 ∷ 5 ∷ 5 ∷ 5 ∷ []
givers_in_order = refl

takers_in_order : map taker twenty ≡ 2 ∷ 3 ∷ 4 ∷ 5 ∷ 1 ∷ 3 ∷ 4 ∷ 5 ∷ 1 ∷ 2 ∷ 4 ∷ 5 ∷ 1 ∷ 2 ∷ 3 ∷ 5 ∷ 1 ∷ 2 ∷ 3 ∷ 4 ∷ []
takers_in_order = refl

-- and once more
again : giver 20 ≡ 1
again = refl

-- the first events of the load of 1
two_rounds : List Event
two_rounds = (steps round 2 (begun 1)).events

first_puts : two_rounds ≡ Put 4 (0 ∷ 36 ∷ []) (0 ∷ 0 ∷ 0 ∷ 0 ∷ []) ∷ Put 5 (0 ∷ 35 ∷ []) (0 ∷ 0 ∷ 0 ∷ 1 ∷ []) ∷ []
unfolding two_rounds steps round state_behind number_at numeral
first_puts = refl

not_by_node_1 : two_rounds ≡ Put 1 (0 ∷ 36 ∷ []) (0 ∷ 0 ∷ 0 ∷ 0 ∷ []) ∷ Put 5 (0 ∷ 35 ∷ []) (0 ∷ 0 ∷ 0 ∷ 1 ∷ []) ∷ [] → ⊥
unfolding two_rounds steps round state_behind number_at numeral
not_by_node_1 e = cc
