use Rattle.std.proofs.Common.{◌≡◌, ◌↔◌, ◌<◌, ◌∙◌, ℕ, List, length, map, sym, subst, arith}
use Rattle.std.specs.List.{All}
use Rattle.std.proofs.lemmas.Bool.{both_ways, ltb-false}
use Rattle.depot_base.specs.declared.update.Update.{Update}
use Rattle.depot_model.specs.journals.Journal.{accepted}
use Rattle.depot_model.specs.journals.ShownWrites.{shown_of}
use Rattle.depot_model.specs.worlds.Traces.{answered}
use Rattle.depot_readings.specs.ReadingsView.{standing}
use Rattle.depot_traces.specs.SeenTraces.{answered_of}
use Rattle.depot_audit.proofs.ShownReads.{IsPairAt, told_at, pair_at, told_goes_on, told_stops, told_ends, more_answered, is_listed, refused}
use Rattle.depot_audit.proofs.shows.shows.Given.{Over}
use Rattle.depot_audit.proofs.shows.shows.Goals as goal
use Rattle.depot_audit.proofs.shows.shows.Goals.{After-as_slice-answer, After-is_told}

-- the answer is what the read lists exactly where it is what is said of the items
listed : (g : Over) (c : After-as_slice-answer g)
    → (map answered_of c.as_slice-answer.result.now ≡ told_at c.args.readings.now.records c.args.read.now.key c.latest-items.result.now) ↔ (map answered_of c.args.read.now.answer ≡ map answered (shown_of c.args.readings.now.records c.args.read.now.key))
listed g c =
    is_listed (standing g.S.Scheme.verifies c.args.readings.now) c.args.readings.now.records _ c.args.read.now.key c.latest-items.result.now c.as_slice-answer.result.now c.args.read.now.answer c.state.ensures.lawful (c.state.ensures.state.accepted ∙ sym c.graph.ensures)
    c.latest-items.ensures.latest c.as_slice-answer.ensures

-- each item is that of an accepted update
within : (g : Over) (c : After-as_slice-answer g) → All (λ (item : ℕ). item < length (accepted c.args.readings.now.records)) c.latest-items.result.now
within g c = subst (λ (us : List Update). All (λ (item : ℕ). item < length us) c.latest-items.result.now) (sym (c.state.ensures.state.accepted ∙ sym c.graph.ensures)) c.latest-items.ensures.items

-- the answer and the item of this place
pair : (g : Over) (c : After-is_told g) → (u : Update) × IsPairAt (accepted c.args.readings.now.records) c.as_slice-answer.result.now c.latest-items.result.now c.loop-place.place c.in-Some.item.now c.index-answer-place.result u
pair g c =
    pair_at (accepted c.args.readings.now.records) c.as_slice-answer.result.now c.latest-items.result.now c.loop-place.place c.in-Some.item.now c.index-answer-place.result c.loop-place-test.true c.index-answer-place.is c.in-Some.ensures.lookup.3.0 c.in-Some.ensures.lookup.1
    (within g (goal.at.After-is_told g c).After-as_slice-answer)

pub returns-in_default : goal.returns-in_default
returns-in_default g c =
    refused _ (λ e. more_answered c.args.readings.now.records c.args.read.now.key c.as_slice-answer.result.now c.latest-items.result.now c.loop-place.place c.loop-place-test.true (ltb-false _ _ (sym c.in_default.ensures.lookup.0)) c.loop-place.invariant
    ((listed g (goal.at.returns-in_default g c).After-as_slice-answer).1 e))

pub returns-then-not-is_told : goal.returns-then-not-is_told
returns-then-not-is_told g c =
    let p = pair g (goal.at.returns-then-not-is_told g c).After-is_told in
    refused _ (λ e. told_stops c.args.readings.now.records c.args.read.now.key c.as_slice-answer.result.now c.latest-items.result.now c.loop-place.place c.in-Some.item.now c.index-answer-place.result p.0 p.1
    (λ same. both_ways c.is_told.result c.if-not-is_told.true ((c.is_told.ensures p.0 p.1.update).1 same)) c.loop-place.invariant
    ((listed g (goal.at.returns-then-not-is_told g c).After-as_slice-answer).1 e))

pub loop-place-preserved : goal.loop-place-preserved
loop-place-preserved g c =
    let p = pair g (goal.at.loop-place-preserved g c).After-is_told in
    told_goes_on c.args.readings.now.records c.args.read.now.key c.as_slice-answer.result.now c.latest-items.result.now c.loop-place.place c.in-Some.item.now c.index-answer-place.result p.0 p.1
    ((c.is_told.ensures p.0 p.1.update).0 c.if-not-is_told.false) c.loop-place.invariant

pub returns : goal.returns
returns g c =
    let l = listed g (goal.at.returns g c).After-as_slice-answer in
    let t = told_ends c.args.readings.now.records c.args.read.now.key c.as_slice-answer.result.now c.latest-items.result.now c.loop-place.place (omega (arith, c.loop-place-test.false, c.loop-place.auto.place-end)) (within g (goal.at.returns g c).After-as_slice-answer) c.loop-place.invariant in
    (λ yes. l.0 (t.0 yes), λ e. t.1 (l.1 e))
