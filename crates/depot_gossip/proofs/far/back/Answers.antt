use Rattle.std.proofs.Common.{◌≡◌, ℕ, ◌-◌, refl, sym, ap, ◌∙◌, arith}
use Rattle.depot_graph.specs.Kept.{prev_places, updates_in}
use Rattle.depot_gossip.specs.FarHellos.{back}
use Rattle.depot_gossip.proofs.FarPlaces.{back_ends, back_next, back_stops, back_told}
use Rattle.depot_gossip.proofs.far.back.Goals as goal

pub loop-init : goal.loop-init
loop-init c =
    let none : c.args.steps - 0 ≡ c.args.steps = omega arith in
    record { same = ap (λ (n : ℕ). back (prev_places (updates_in c.args.graph.now.items.entries)) n c.args.item) none; inside = c.requires }

pub prev-requires : goal.prev-requires
prev-requires c = c.loop.invariant.inside

pub returns-in_err-at : goal.returns-in_err-at
returns-in_err-at c =
    let prevs = prev_places (updates_in c.args.graph.now.items.entries) in
    c.from_residual.ensures ∙ sym (back_stops prevs c.args.steps c.loop.counter c.loop.at c.loop-test.true c.in_err-at.ensures) ∙ c.loop.invariant.same

pub loop-preserved : goal.loop-preserved
loop-preserved c =
    let us = updates_in c.args.graph.now.items.entries in
    let prevs = prev_places us in
    record {
      same = sym (back_next prevs c.args.steps c.loop.counter c.loop.at c.in_ok-at.at c.loop-test.true (c.in_ok-at.ensures)) ∙ c.loop.invariant.same;
      inside = back_told prevs us c.loop.at c.in_ok-at.at refl (c.in_ok-at.ensures);
    }

pub returns : goal.returns
returns c = sym (back_ends (prev_places (updates_in c.args.graph.now.items.entries)) c.args.steps c.loop.counter c.loop.at c.loop-test.false) ∙ c.loop.invariant.same
