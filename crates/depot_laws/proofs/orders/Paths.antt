-- What holds along a path.
use Rattle.std.proofs.Common.{List, [], ◌∷◌}
use Rattle.depot_model.specs.updates.Order.{IsPath, Leads}
use Rattle.depot_model.proofs.of_updates.Orders.{leads_one, leads_more}

carried : {X : Type 0} (step : X → X → Type 0) (P : X → Type 0) (z : X) → ((x : X) → step x z → P x) → ((x y : X) → step x y → P y → P x) → (x : X) (stops : List X) → IsPath step x stops z → P x
carried step P z last kept x [] path = last x path
carried step P z last kept x (y ∷ stops) path = kept x y path.0 (carried step P z last kept y stops path.1)

-- what the last step gives, and each step before it keeps, holds where the path begins
pub back_along : {X : Type 0} (step : X → X → Type 0) (P : X → Type 0) (z : X) → ((x : X) → step x z → P x) → ((x y : X) → step x y → P y → P x) → (x : X) → Leads step x z → P x
back_along step P z last kept x l = carried step P z last kept x l.stops l.path

sent : {X Y : Type 0} (f : X → Y) (step : X → X → Type 0) (other : Y → Y → Type 0) → ((x z : X) → step x z → other (f x) (f z)) → (x : X) (stops : List X) (z : X) → IsPath step x stops z → Leads other (f x) (f z)
sent f step other each x [] z path = leads_one other (f x) (f z) (each x z path)
sent f step other each x (y ∷ stops) z path = leads_more other (f x) (f y) (f z) (each x y path.0) (sent f step other each y stops z path.1)

-- a path leads on where each of its steps is one between other things
pub leads_sent : {X Y : Type 0} (f : X → Y) (step : X → X → Type 0) (other : Y → Y → Type 0) → ((x z : X) → step x z → other (f x) (f z)) → (x z : X) → Leads step x z → Leads other (f x) (f z)
leads_sent f step other each x z l = sent f step other each x l.stops z l.path
