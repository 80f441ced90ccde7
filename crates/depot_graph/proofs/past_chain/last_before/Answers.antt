use Rattle.std.proofs.Common.{◌≡◌, ◌∙◌, ◌≤◌, [], ℕ, List, Some, None, sym, ap, subst, arith}
use Rattle.std.specs.Prelude.{slice_get}
use Rattle.depot_base.specs.declared.update.Update.{Update}
use Rattle.depot_order.specs.declared.chains.Spot.{Spot}
use Rattle.depot_order.specs.Spots.{spots}
use Rattle.depot_graph.specs.Causal.{causal_from_test}
use Rattle.depot_graph.specs.Kept.{updates_in, prev_places}
use Rattle.depot_graph.proofs.ChainLeaves.{IsReached, at_within, tip_is_reached, before_is_reached, prevs_are_earlier}
use Rattle.depot_graph.proofs.past_chain.last_before.Goals as goal

pub loop-item-init : goal.loop-item-init
loop-item-init c = let us = updates_in c.args.graph.now.items.entries in tip_is_reached us c.args.chain c.args.place c.tip-item.result (causal_from_test [] us c.args.graph.now.causal) c.tip-item.ensures

pub spot-requires : goal.spot-requires
spot-requires c = at_within (updates_in c.args.graph.now.items.entries) c.loop-item.item c.args.chain c.loop-item.invariant.place c.loop-item.invariant.at

pub prev-requires : goal.prev-requires
prev-requires c = at_within (updates_in c.args.graph.now.items.entries) c.loop-item.item c.args.chain c.loop-item.invariant.place c.loop-item.invariant.at

-- the place that was read is that of the item
read : (us : List Update) (n chain count : ℕ) (s : Spot) (r : IsReached us chain count n) → slice_get (spots (prev_places us)) n ≡ Some s → s.place ≡ r.place
read us n chain count s r told = let both : Some s ≡ Some (record { chain = chain; place = r.place }) = sym told ∙ r.at in let same : s ≡ record { chain = chain; place = r.place } = cc in ap (λ (x : Spot). x.place) same

pub returns-in_err-item-clause-none : goal.returns-in_err-item-clause-none
returns-in_err-item-clause-none c =
    let us = updates_in c.args.graph.now.items.entries in
    let r = c.loop-item.invariant in
    let high : c.args.place ≤ r.place = omega (arith, c.loop-item-test.true, read us c.loop-item.item c.args.chain c.args.place c.spot.result r c.spot.ensures) in
    let b = before_is_reached us c.args.chain c.args.place c.loop-item.item c.if-place-eq0.false r high in
    let none : Some None ≡ Some (Some b.0) = sym c.in_err-item.ensures ∙ b.1.0 in
    absurd cc

pub loop-item-smaller : goal.loop-item-smaller
loop-item-smaller c = let us = updates_in c.args.graph.now.items.entries in prevs_are_earlier us (causal_from_test [] us c.args.graph.now.causal) c.loop-item.item c.in_ok-item.item c.in_ok-item.ensures

pub loop-item-preserved : goal.loop-item-preserved
loop-item-preserved c =
    let us = updates_in c.args.graph.now.items.entries in
    let r = c.loop-item.invariant in
    let high : c.args.place ≤ r.place = omega (arith, c.loop-item-test.true, read us c.loop-item.item c.args.chain c.args.place c.spot.result r c.spot.ensures) in
    let b = before_is_reached us c.args.chain c.args.place c.loop-item.item c.if-place-eq0.false r high in
    let both : Some (Some b.0) ≡ Some (Some c.in_ok-item.item) = sym b.1.0 ∙ c.in_ok-item.ensures in
    let same : b.0 ≡ c.in_ok-item.item = cc in
    subst (IsReached us c.args.chain c.args.place) same b.1.1
