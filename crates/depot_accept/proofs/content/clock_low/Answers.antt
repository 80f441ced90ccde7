use Rattle.std.proofs.Common.{refl, sym, ◌∙◌}
use Rattle.depot_model.specs.updates.Order.{parents}
use Rattle.depot_base.specs.declared.check.Check.TheVariants as check
use Rattle.depot_accept.proofs.ParentItems.{place_within, low_against, low_at_items, low_told, fails_here, fails_nowhere_else}
use Rattle.depot_accept.proofs.content.clock_low.Goals as goal

pub update-requires : goal.update-requires
update-requires g c = place_within (g.P.Past.updates c.args.past.now) (parents c.args.update.now) c.args.items.now c.loop-item.item-index c.requires c.loop-item-test.true

pub id-requires : goal.id-requires
id-requires g c = place_within (g.P.Past.updates c.args.past.now) (parents c.args.update.now) c.args.items.now c.loop-item.item-index c.requires c.loop-item-test.true

pub returns-then-update : goal.returns-then-update
returns-then-update g c =
    let us = g.P.Past.updates c.args.past.now in
    let u = c.args.update.now in
    let t = c.update.result.now in
    let low = low_told us u t _ c.id.result.now c.update.ensures c.id.ensures c.if-update.true in
    sym (low_at_items us u c.args.items.now c.requires ∙ c.loop-item.invariant ∙ fails_here (low_against u) us c.args.items.now c.loop-item.item-index _ t (check.ClockLow c.id.result.now) c.loop-item-test.true refl c.update.ensures low)

pub returns : goal.returns
returns g c =
    let us = g.P.Past.updates c.args.past.now in
    sym (low_at_items us c.args.update.now c.args.items.now c.requires ∙ c.loop-item.invariant ∙ fails_nowhere_else (low_against c.args.update.now) us c.args.items.now c.loop-item.item-index c.loop-item-test.false)
