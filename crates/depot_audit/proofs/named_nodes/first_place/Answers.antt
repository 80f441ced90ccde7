use Rattle.std.proofs.Common.{◌<◌, ℕ, List, length, map, take, Some, sym, ap, subst, ◌∙◌, arith}
use Rattle.std.specs.Prelude.{position}
use Rattle.std.proofs.lemmas.List.{take_all, length-take-le}
use Rattle.depot_audit.specs.Lookups.{nodes_in, accuses_one}
use Rattle.depot_model.specs.texts.Records.{IsTextOf}
use Rattle.depot_audit.specs.MetTexts.{AreTexts}
use Rattle.depot_audit.proofs.ListLaws.{pair_in, pair_next, pair_last, no_pairs, same_count, place_on, place_stops}
use Rattle.depot_audit.proofs.named_nodes.first_place.Goals as goal

pub loop-place-init : goal.loop-place-init
loop-place-init c = λ J told. ap (position (accuses_one (nodes_in (map (λ t. t.now) c.args.traces.now)))) (no_pairs IsTextOf J told)

pub is_against_one-requires : goal.is_against_one-requires
is_against_one-requires c =
    let below : c.loop-place.place < length c.args.texts.now = omega arith in
    let h = pair_in IsTextOf c.requires.texts.0 c.args.texts.now c.loop-place.place c.index-texts-place.result below c.index-texts-place.is c.requires.texts.1 in
    (h.one, subst (IsTextOf h.one) (sym c.as_slice.ensures) h.pair)

pub returns-then-branch : goal.returns-then-branch
returns-then-branch c = λ J told.
    let below : c.loop-place.place < length c.args.texts.now = omega arith in
    let test = accuses_one (nodes_in (map (λ t. t.now) c.args.traces.now)) in
    let h = pair_in IsTextOf J c.args.texts.now c.loop-place.place c.index-texts-place.result below c.index-texts-place.is told in
    let passes = sym (c.in_ok-is_against_one.ensures h.one (subst (IsTextOf h.one) (sym c.as_slice.ensures) h.pair)) ∙ c.if-branch.true in
    sym (ap (position test) h.is ∙ place_stops test h.before h.one h.after (c.loop-place.invariant h.before h.pairs) passes
    ∙ ap (λ (n : ℕ). Some n) (same_count IsTextOf h.before (take c.loop-place.place c.args.texts.now) h.pairs ∙ length-take-le c.loop-place.place c.args.texts.now (omega arith)))

pub loop-place-preserved : goal.loop-place-preserved
loop-place-preserved c = λ J told.
    let below : c.loop-place.place < length c.args.texts.now = omega arith in
    let test = accuses_one (nodes_in (map (λ t. t.now) c.args.traces.now)) in
    let h = pair_next IsTextOf J c.args.texts.now c.loop-place.place c.index-texts-place.result below c.index-texts-place.is told in
    let fails = sym (c.in_ok-is_against_one.ensures h.one (subst (IsTextOf h.one) (sym c.as_slice.ensures) h.pair)) ∙ c.if-branch.false in
    ap (position test) (pair_last IsTextOf J (take c.loop-place.place c.args.texts.now) c.index-texts-place.result h) ∙ place_on test h.before h.one (c.loop-place.invariant h.before h.pairs) fails

pub returns : goal.returns
returns c = λ J told.
    sym (c.loop-place.invariant J (subst (λ (texts : List (List ℕ)). AreTexts J texts) (sym (take_all c.loop-place.place c.args.texts.now (omega arith))) told))
