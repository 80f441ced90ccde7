use Rattle.std.proofs.Common.{[], ◌∷◌}
use Rattle.depot_kept.proofs.ListedPlaces.{is_next, whole_next}
use Rattle.depot_kept.proofs.KeepLaws.{place_low}
use Rattle.depot_kept.proofs.FirstOpponents.{first_of_both}
use Rattle.depot_kept.proofs.firsts.first_under.Goals as goal

pub contradiction_at-requires-clause-place : goal.contradiction_at-requires-clause-place
contradiction_at-requires-clause-place c = place_low _ _ c.args.mark.now _ c.requires.keeping (is_next _ _ _ _ _ c.loop-place.invariant.whole c.in-Some.ensures.steps)

pub loop-place-preserved : goal.loop-place-preserved
loop-place-preserved c = record {
  first = rw c.earlier-first.ensures (first_of_both _ _ (c.in-Some.place ∷ []) _ _ _ c.loop-place.invariant.first c.contradiction_at.ensures);
  whole = whole_next _ _ _ _ _ c.loop-place.invariant.whole c.in-Some.ensures.steps;
}
