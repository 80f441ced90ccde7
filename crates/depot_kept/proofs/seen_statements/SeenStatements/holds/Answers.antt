use Rattle.std.proofs.Common.{◌<◌, length, ap, sym, ◌∙◌, arith}
use Rattle.depot_kept.specs.Opponents.{KeptSigned}
use Rattle.depot_kept.specs.PlacesLeft.{left}
use Rattle.depot_kept.proofs.ListedPlaces.{whole_next}
use Rattle.depot_kept.proofs.HoldLaws.{entry_at, none_at_none, none_at_more, all_left, next_low, held_here, held_nowhere}
use Rattle.depot_kept.proofs.seen_statements.SeenStatements.holds.Goals as goal

pub loop-place-init : goal.loop-place-init
loop-place-init c = record {
  none = none_at_none _ _;
  whole = all_left _ c.args.statement.now _ _ _ c.writer.ensures c.seq.ensures (ap left c.into_iter-place-iterator.ensures.into_iter_gives ∙ c.places-place-items.ensures);
}

pub index-requires : goal.index-requires
index-requires c =
    let low : c.in-Some.place < length c.self.inside.entries.items =
    next_low c.self.inside.entries.items c.self.inside.table c.args.statement.now c.loop-place.yielded (left c.loop-place.place-iterator) (left c.next.new.self) c.in-Some.place c.self.invariant c.loop-place.invariant.whole c.in-Some.ensures.steps in
    omega (arith, low)

pub has_body_of-requires-clause-entry : goal.has_body_of-requires-clause-entry
has_body_of-requires-clause-entry c =
    let low = next_low _ _ c.args.statement.now _ _ _ _ c.self.invariant c.loop-place.invariant.whole c.in-Some.ensures.steps in
    entry_at _ c.in-Some.place _ c.self.invariant.entries low c.index.ensures

pub returns-then-has_body_of : goal.returns-then-has_body_of
returns-then-has_body_of c =
    let low = next_low _ _ c.args.statement.now _ _ _ _ c.self.invariant c.loop-place.invariant.whole c.in-Some.ensures.steps in
    held_here _ _ c.args.statement.now c.in-Some.place _ (ap (λ (k : KeptSigned). k.kept) c.self.view_is) low c.index.ensures (sym c.has_body_of.ensures ∙ c.if-has_body_of.true)

pub loop-place-preserved : goal.loop-place-preserved
loop-place-preserved c =
    let low = next_low _ _ c.args.statement.now _ _ _ _ c.self.invariant c.loop-place.invariant.whole c.in-Some.ensures.steps in
    record {
      none = none_at_more _ _ _ c.in-Some.place _ c.loop-place.invariant.none low c.index.ensures (sym c.has_body_of.ensures ∙ c.if-has_body_of.false);
      whole = whole_next _ _ _ _ _ c.loop-place.invariant.whole c.in-Some.ensures.steps;
    }

pub returns : goal.returns
returns c = held_nowhere _ _ _ c.args.statement.now _ _ c.self.invariant (ap (λ (k : KeptSigned). k.kept) c.self.view_is) c.requires.text c.loop-place.invariant.none c.loop-place.invariant.whole c.in-None.ensures.steps.0
