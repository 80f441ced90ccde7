use Rattle.std.proofs.Common.{◌≡◌, map, filter, take}
use Rattle.depot_queries.proofs.FrontOrder.{is_other}
use Rattle.depot_queries.proofs.in_front.proof_places.Given as goal

abbrev pub invariant-loop-conviction : goal.invariant-loop-conviction
invariant-loop-conviction g l = l.places ≡ map (λ c. c.place) (filter (is_other l.listed) (take l.conviction-index l.conviction-items))
