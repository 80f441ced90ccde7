-- The order of the values of a faulty update: each different one once, where it occurs first.
use Rattle.std.proofs.Common.{◌≡◌, [], ◌∷◌, refl}
use Rattle.depot_world.specs.FaultySigning.{each_once}

-- of two equal ones with another between them the first stays
first_stays : each_once ((98 ∷ []) ∷ (97 ∷ []) ∷ (98 ∷ []) ∷ []) ≡ (98 ∷ []) ∷ (97 ∷ []) ∷ []
unfolding each_once
first_stays = refl
