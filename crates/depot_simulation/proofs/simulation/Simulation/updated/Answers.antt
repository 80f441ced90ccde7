use Rattle.std.proofs.Common.{◌≡◌, List, map, sym, ap, subst, ◌∙◌, []}
use Rattle.depot_base.specs.Zeros.{zeros}
use Rattle.depot_base.specs.declared.write.Write.{Write}
use Rattle.depot_model.specs.checks.Own.{entry_of}
use Rattle.depot_base.specs.declared.update.Update.{Update}
use Rattle.depot_world.specs.FaultySigning.{drafted, history_by, with_history}
use Rattle.depot_scenario.specs.KnownUpdates.{HasSeenParents}
use Rattle.depot_simulation.proofs.DraftTexts.{IsPutTogether, IsSeenUpdate, draft_is_seen, draft_is_updated, may_ask, no_entries, no_prev, updated_is_seen}
use Rattle.depot_simulation.proofs.LabelledUpdates.{named_here}
use Rattle.depot_simulation.proofs.SignedUpdates.{is_numbered}
use Rattle.depot_simulation.proofs.simulation.Simulation.updated.Given.{Over}
use Rattle.depot_simulation.proofs.simulation.Simulation.updated.Goals as goal
use Rattle.depot_simulation.proofs.simulation.Simulation.updated.Goals.{After-drafted-draft, In_ok-with_history}

pub returns-in_default-clause-is : goal.returns-in_default-clause-is
returns-in_default-clause-is g c = λ setup run at sign.
    no_prev sign run c.args.writer c.args.seq c.args.clock c.args.prev.now c.args.changes.now c.args.deps.now c.args.history (sym c.in_default.is ∙ c.in_ok-prev.ensures setup run at)

pub returns-in_default-2-clause-is : goal.returns-in_default-2-clause-is
returns-in_default-2-clause-is g c = λ setup run at sign.
    no_entries sign run c.args.writer c.args.seq c.args.clock c.args.prev.now c.args.changes.now c.args.deps.now c.args.history (sym c.in_default-2.is ∙ c.in_ok-deps.ensures setup run at)

-- how the draft was put together
made : (g : Over) (c : After-drafted-draft g) → IsPutTogether c.args.writer c.args.seq c.args.clock c.in-Some.prev c.args.changes.now c.in-Some-2.deps c.drafted-draft.result
made g c = subst (λ (ws : List Write). (us : List Update) → c.in-Some-2.deps ≡ map entry_of us → c.drafted-draft.result ≡ with_history (drafted c.args.writer c.args.seq c.args.clock c.in-Some.prev ws us) zeros) c.in_ok-writes.ensures c.drafted-draft.ensures

pub with_history-requires-clause-parents : goal.with_history-requires-clause-parents
with_history-requires-clause-parents g c =
    let setup = c.requires.played.setup in
    let run = c.requires.played.run in
    let at = c.requires.played.at in
    subst (λ (us : List Update). HasSeenParents us c.drafted-draft.result) (sym at.seen_are)
    (draft_is_seen run c.args.writer c.args.seq c.args.clock c.args.prev.now c.in-Some.prev c.args.changes.now c.args.deps.now c.args.history c.in-Some-2.deps c.drafted-draft.result
    (named_here g.A.Actor.view g.A.Reader.Reading.reads setup run c.args.self.now g.met.A.Actor.lawful at) c.requires.fits (sym c.in-Some.is ∙ c.in_ok-prev.ensures setup run at) (sym c.in-Some-2.is ∙ c.in_ok-deps.ensures setup run at) (made g (goal.at.with_history-requires-clause-parents g c).After-drafted-draft))

pub with_history-requires-clause-asked : goal.with_history-requires-clause-asked
with_history-requires-clause-asked g c =
    let setup = c.requires.played.setup in
    let run = c.requires.played.run in
    let at = c.requires.played.at in
    may_ask c.args.self.now.seen.asked run c.args.writer c.args.seq c.args.clock c.args.prev.now c.in-Some.prev c.args.changes.now c.args.deps.now c.args.history c.in-Some-2.deps c.drafted-draft.result
    c.requires.asked (sym c.in-Some.is ∙ c.in_ok-prev.ensures setup run at) (sym c.in-Some-2.is ∙ c.in_ok-deps.ensures setup run at) (made g (goal.at.with_history-requires-clause-asked g c).After-drafted-draft)

pub returns-clause-is : goal.returns-clause-is
returns-clause-is g c = λ setup run at sign.
    let draft = c.drafted-draft.result in
    draft_is_updated sign run c.args.writer c.args.seq c.args.clock c.args.prev.now c.in-Some.prev c.args.changes.now c.args.deps.now c.args.history c.in-Some-2.deps draft c.in_ok-with_history.field-0
    (sym c.in-Some.is ∙ c.in_ok-prev.ensures setup run at) (sym c.in-Some-2.is ∙ c.in_ok-deps.ensures setup run at) (made g (goal.at.returns-clause-is g c).After-drafted-draft)
    (c.in_ok-with_history.ensures ∙ ap (λ (us : List Update). with_history draft (history_by us c.args.history draft)) at.seen_are)

-- the update has a text, and its parents were seen
seen : (g : Over) (c : In_ok-with_history g) → IsSeenUpdate c.args.self.now.seen.listed.updates c.in_ok-with_history.field-0
seen g c =
    let setup = c.requires.played.setup in
    let run = c.requires.played.run in
    let at = c.requires.played.at in
    subst (λ (us : List Update). IsSeenUpdate us c.in_ok-with_history.field-0) (sym at.seen_are)
    (updated_is_seen run (λ _ _. []) c.args.writer c.args.seq c.args.clock c.args.prev.now c.args.changes.now c.args.deps.now c.args.history c.in_ok-with_history.field-0
    (named_here g.A.Actor.view g.A.Reader.Reading.reads setup run c.args.self.now g.met.A.Actor.lawful at) c.requires.fits (returns-clause-is g c setup run at (λ _ _. [])))

pub returns-clause-text : goal.returns-clause-text
returns-clause-text g c = (seen g (goal.at.returns-clause-text g c).In_ok-with_history).fits

pub returns-clause-parents : goal.returns-clause-parents
returns-clause-parents g c = (seen g (goal.at.returns-clause-parents g c).In_ok-with_history).parents

pub returns-clause-numbered : goal.returns-clause-numbered
returns-clause-numbered g c =
    let setup = c.requires.played.setup in
    let run = c.requires.played.run in
    is_numbered (λ _ _. []) run c.args.writer c.args.seq c.args.clock c.args.prev.now c.args.changes.now c.args.deps.now c.args.history c.in_ok-with_history.field-0 (returns-clause-is g (goal.at.returns-clause-numbered g c).In_ok-with_history setup run c.requires.played.at (λ _ _. []))
