use Rattle.std.proofs.Common.{ℕ, ◌+◌, ◌-◌, ◌++◌, List, refl, sym, ap, ◌∙◌, arith}
use Rattle.depot_graph.specs.Kept.{prev_places, updates_in}
use Rattle.depot_gossip.specs.FarHellos.{far_behind}
use Rattle.depot_gossip.proofs.FarPlaces.{back_inside, far_ends, far_next, far_stops, steps_double, steps_few}
use Rattle.depot_gossip.proofs.far.add_far.Goals as goal

pub loop-init : goal.loop-init
loop-init c = record { same = refl; inside = c.requires; doubled = refl }

pub back-requires : goal.back-requires
back-requires c = c.loop.invariant.inside

pub returns-in_default : goal.returns-in_default
returns-in_default c =
    sym (far_stops (prev_places (updates_in c.args.graph.now.items.entries)) c.loop.items.items c.loop.counter c.loop.steps c.loop.at c.loop-test.true (sym c.back.ensures ∙ c.in_default.is)) ∙ c.loop.invariant.same

pub overflow_add-steps : goal.overflow_add-steps
overflow_add-steps c = omega (arith, steps_few c.loop.counter c.loop.steps c.loop-test.true c.loop.invariant.doubled)

pub loop-preserved : goal.loop-preserved
loop-preserved c =
    let us = updates_in c.args.graph.now.items.entries in
    let prevs = prev_places us in
    let at = sym c.back.ensures ∙ c.in-Some.is in
    record {
      same = ap (λ (xs : List ℕ). xs ++ far_behind prevs (17 - (c.loop.counter + 1)) (c.loop.steps + c.loop.steps) c.in-Some.far) c.in_ok-push.ensures.items
          ∙ sym (far_next prevs c.loop.items.items c.loop.counter c.loop.steps c.loop.at c.in-Some.far c.loop-test.true at) ∙ c.loop.invariant.same;
      inside = back_inside us c.loop.steps c.loop.at c.in-Some.far c.loop.invariant.inside at;
      doubled = steps_double c.loop.counter c.loop.steps c.loop.invariant.doubled;
    }

pub returns : goal.returns
returns c = sym (far_ends (prev_places (updates_in c.args.graph.now.items.entries)) c.loop.items.items c.loop.counter c.loop.steps c.loop.at c.loop-test.false) ∙ c.loop.invariant.same
