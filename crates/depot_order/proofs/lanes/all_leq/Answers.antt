use Rattle.std.proofs.Common.{◌≡◌, ◌∙◌, Bool, true, false, ℕ, Option, not, ap, is_none, refl}
use Rattle.depot_order.proofs.LaneLaws.{is_none-first_above}
use Rattle.depot_order.proofs.lanes.all_leq.Goals as goal

other_way : (a b : Bool) → a ≡ not b → b ≡ not a
other_way true true e = absurd cc
other_way true false e = refl
other_way false true e = refl
other_way false false e = absurd cc

pub returns : goal.returns
returns c = other_way _ c.is_none.result c.is_none.ensures ∙ (ap (λ (o : Option ℕ). is_none o) c.first_above.ensures ∙ is_none-first_above c.args.a.now c.args.b.now)
