use Rattle.std.proofs.Common.{◌≡◌, ◌∙◌, ◌<◌, ◌≤◌, [], ℕ, List, Option, Some, unwrap_or, sym, ap, subst, arith}
use Rattle.std.specs.Prelude.{slice_get}
use Rattle.depot_base.specs.declared.update.Update.{Update}
use Rattle.depot_order.specs.declared.chains.Spot.{Spot}
use Rattle.depot_order.specs.Spots.{IsSpotAt, spots}
use Rattle.depot_graph.specs.Causal.{causal_from_test}
use Rattle.depot_graph.specs.Kept.{updates_in, prev_places}
use Rattle.depot_graph.proofs.ChainLeaves.{at_within, prevs_are_earlier}
use Rattle.depot_queries.proofs.TailLaws.{IsPassed, passed_tip, passed_next, passed_all, no_tail}
use Rattle.depot_queries.proofs.tails.push_tail.Goals as goal

-- the place that was read is that of the item
read : (us : List Update) (n chain place : ℕ) (s : Spot) → IsSpotAt (prev_places us) n chain place → slice_get (spots (prev_places us)) n ≡ Some s → s.place ≡ place
read us n chain place s at told = let both : Some s ≡ Some (record { chain = chain; place = place }) = sym told ∙ at in let same : s ≡ record { chain = chain; place = place } = cc in ap (λ (x : Spot). x.place) same

pub spot-requires : goal.spot-requires
spot-requires c = at_within (updates_in c.args.graph.now.items.entries) c.tip-item.result c.args.chain c.tip-item.ensures.place c.tip-item.ensures.own

pub returns-then-spot-from : goal.returns-then-spot-from
returns-then-spot-from c =
    let us = updates_in c.args.graph.now.items.entries in
    let t = c.tip-item.ensures in
    no_tail us c.args.chain c.args.from c.args.found.now.items c.tip-item.result (causal_from_test [] us c.args.graph.now.causal) t (omega (arith, c.if-spot-from.true, read us c.tip-item.result c.args.chain t.place c.spot.result t.own c.spot.ensures))

pub loop-found-init : goal.loop-found-init
loop-found-init c =
    let us = updates_in c.args.graph.now.items.entries in
    let t = c.tip-item.ensures in
    passed_tip us c.args.chain c.args.from c.args.found.now.items c.tip-item.result (causal_from_test [] us c.args.graph.now.causal) t (omega (arith, c.if-spot-from.false, read us c.tip-item.result c.args.chain t.place c.spot.result t.own c.spot.ensures))

pub spot-requires-in-loop-found : goal.spot-requires-in-loop-found
spot-requires-in-loop-found c = at_within (updates_in c.args.graph.now.items.entries) c.loop-found.item c.args.chain c.loop-found.invariant.place c.loop-found.invariant.at

pub prev-requires : goal.prev-requires
prev-requires c = at_within (updates_in c.args.graph.now.items.entries) c.loop-found.item c.args.chain c.loop-found.invariant.place c.loop-found.invariant.at

-- the item before is the one that was given
told : (us : List Update) (item b item_next : ℕ) (prev : Option ℕ) → slice_get (prev_places us) item ≡ Some (Some b) → slice_get (prev_places us) item ≡ Some prev → item_next ≡ unwrap_or prev item → b ≡ item_next
told us item b item_next prev is tells next = let both : Some (Some b) ≡ Some prev = sym is ∙ tells in let same : Some b ≡ prev = cc in ap (λ (o : Option ℕ). unwrap_or o item) same ∙ sym next

pub loop-found-smaller : goal.loop-found-smaller
loop-found-smaller c =
    let us = updates_in c.args.graph.now.items.entries in
    let p = c.loop-found.invariant in
    let later : c.args.from < p.place = omega (arith, c.loop-found-test.true, read us c.loop-found.item c.args.chain p.place c.spot-in-loop-found.result p.at c.spot-in-loop-found.ensures) in
    let b = passed_next us c.args.chain c.args.from c.args.found.now.items c.loop-found.found.items c.push.new.self.items c.loop-found.item p later c.in_ok-push.ensures.items in
    omega (arith, prevs_are_earlier us (causal_from_test [] us c.args.graph.now.causal) c.loop-found.item b.0 b.1.0, told us c.loop-found.item b.0 c.unwrap_or-item.result c.prev.result b.1.0 c.prev.ensures c.unwrap_or-item.ensures)

pub loop-found-preserved : goal.loop-found-preserved
loop-found-preserved c =
    let us = updates_in c.args.graph.now.items.entries in
    let p = c.loop-found.invariant in
    let later : c.args.from < p.place = omega (arith, c.loop-found-test.true, read us c.loop-found.item c.args.chain p.place c.spot-in-loop-found.result p.at c.spot-in-loop-found.ensures) in
    let b = passed_next us c.args.chain c.args.from c.args.found.now.items c.loop-found.found.items c.push.new.self.items c.loop-found.item p later c.in_ok-push.ensures.items in
    subst (IsPassed us c.args.chain c.args.from c.args.found.now.items c.push.new.self.items) (told us c.loop-found.item b.0 c.unwrap_or-item.result c.prev.result b.1.0 c.prev.ensures c.unwrap_or-item.ensures) b.1.1

pub returns : goal.returns
returns c =
    let us = updates_in c.args.graph.now.items.entries in
    let p = c.loop-found.invariant in
    let low : p.place ≤ c.args.from = omega (arith, c.loop-found-test.false, read us c.loop-found.item c.args.chain p.place c.spot-in-loop-found.result p.at c.spot-in-loop-found.ensures) in
    passed_all us c.args.chain c.args.from c.args.found.now.items c.loop-found.found.items c.push-2.new.self.items c.loop-found.item p low c.in_ok-push-2.ensures.items
