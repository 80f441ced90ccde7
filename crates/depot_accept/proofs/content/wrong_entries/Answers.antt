use Rattle.std.proofs.Common.{◌+◌, refl, sym, ap, ◌∙◌}
use Rattle.depot_model.specs.checks.Checks.{wrong_entry}
use Rattle.depot_accept.proofs.NamedUpdates.{wrong_here, wrong_later}
use Rattle.depot_accept.proofs.ParentItems.{entry_named, entry_within}
use Rattle.depot_accept.proofs.content.wrong_entries.Goals as goal

pub update-requires : goal.update-requires
update-requires g c = entry_within (g.P.Past.updates c.args.past.now) c.args.deps.now c.args.items.now c.loop-place.place c.index-deps-place.result _ c.requires.places c.loop-place-test.true c.index-deps-place.is refl

pub returns-in-Some : goal.returns-in-Some
returns-in-Some g c =
    let us = g.P.Past.updates c.args.past.now in
    let named_is = entry_named us c.args.deps.now c.args.items.now c.loop-place.place c.index-deps-place.result _ c.update.result.now c.requires.places c.loop-place-test.true c.index-deps-place.is refl c.update.ensures in
    sym (c.loop-place.invariant ∙ wrong_here us c.args.deps.now c.loop-place.place (c.loop-place.place + 1) c.index-deps-place.result c.in-Some.check c.loop-place-test.true c.index-deps-place.is (sym (c.in-Some.ensures ∙ ap (wrong_entry (c.loop-place.place + 1) c.index-deps-place.result) named_is)))

pub loop-place-preserved : goal.loop-place-preserved
loop-place-preserved g c =
    let us = g.P.Past.updates c.args.past.now in
    let named_is = entry_named us c.args.deps.now c.args.items.now c.loop-place.place c.index-deps-place.result _ c.update.result.now c.requires.places c.loop-place-test.true c.index-deps-place.is refl c.update.ensures in
    c.loop-place.invariant ∙ wrong_later us c.args.deps.now c.loop-place.place (c.loop-place.place + 1) c.index-deps-place.result c.loop-place-test.true c.index-deps-place.is (sym (c.in_default.ensures ∙ ap (wrong_entry (c.loop-place.place + 1) c.index-deps-place.result) named_is))
