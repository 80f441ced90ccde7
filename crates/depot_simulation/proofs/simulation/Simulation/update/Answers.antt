use Rattle.std.proofs.Common.{List, ℕ, refl, ap, sym, subst, ◌∙◌}
use Rattle.std.specs.Prelude.{IfSome}
use Rattle.depot_base.specs.declared.update.Update.{Update}
use Rattle.depot_model.specs.journals.Journal.{update_in}
use Rattle.depot_schedule.specs.EventLines.{event_changes, event_node}
use Rattle.depot_world.specs.Setups.{signs_on}
use Rattle.depot_world.specs.Transcript.{Done, done_by_text}
use Rattle.depot_simulation.specs.Doing.{HasDone, signed_text, update_by, with_update}
use Rattle.depot_simulation.specs.Playing.{WereSeen}
use Rattle.depot_simulation.proofs.MadeTexts.{kept_by, text_given}
use Rattle.depot_simulation.proofs.SignedUpdates.{update_is}
use Rattle.depot_simulation.proofs.simulation.Simulation.update.Goals as goal

pub returns-clause-lines : goal.returns-clause-lines
returns-clause-lines g c = λ setup run on at.
    let view = g.A.Actor.view in
    let reads = g.A.Reader.Reading.reads in
    let e = c.args.event.now in
    let text = c.in_ok-text.text in
    let after = record c.signed.new.self { labels = c.give.new.self } in
    let run_then = with_update run (update_by setup run e) in
    let t = signed_text (signs_on setup (event_node e)) (event_changes e) (update_by setup run e) in
    let at_then = c.in_ok-text.ensures.at setup run at in
    let were = subst (λ (us : List Update). IfSome text.signed (λ s. WereSeen us (update_in s.statement))) at_then.seen_are c.in_ok-text.ensures.were in
    let kept = kept_by run_then.seen text.signed c.in_ok-text.ensures.fits were in
    let given = text_given g.row.A.Denot view reads setup run_then c.args.label.now t c.signed.new.self after text c.in_ok-lines.lines at_then (c.in_ok-text.ensures.is setup run on at) kept
    c.in_ok-lines.ensures.lines refl refl refl c.in_ok-lines.ensures.labels in
    subst (λ (d : Done). HasDone g.row.A.Denot view reads setup d c.in_ok-lines.lines after) (ap (λ (l : List ℕ). done_by_text run_then l t) (sym c.requires.label) ∙ update_is setup run e c.requires.signing) given
