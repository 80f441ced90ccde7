use Rattle.std.proofs.Common.{ℕ, List, refl, ap, sym, subst, ◌∙◌}
use Rattle.depot_world.specs.Transcript.{Done, done_by_text}
use Rattle.depot_simulation.specs.Doing.{HasDone, text_by}
use Rattle.depot_simulation.proofs.MadeTexts.{kept_by, made_is, no_update_seen, text_given}
use Rattle.depot_simulation.proofs.simulation.Simulation.make.Goals as goal

pub returns-clause-lines : goal.returns-clause-lines
returns-clause-lines g c = λ setup run on at.
    let view = g.A.Actor.view in
    let reads = g.A.Reader.Reading.reads in
    let e = c.args.event.now in
    let text = c.in_ok-text.text in
    let after = record c.args.self.now { labels = c.give.new.self } in
    let kept = kept_by run.seen text.signed c.in_ok-text.ensures.fits (no_update_seen run.seen text.signed c.in_ok-text.ensures.none) in
    let given = text_given g.row.A.Denot view reads setup run c.args.label.now (text_by setup run e) c.args.self.now after text c.in_ok-lines.lines at (c.in_ok-text.ensures.is setup run on at) kept
    c.in_ok-lines.ensures.lines refl refl refl c.in_ok-lines.ensures.labels in
    subst (λ (d : Done). HasDone g.row.A.Denot view reads setup d c.in_ok-lines.lines after) (ap (λ (l : List ℕ). done_by_text run l (text_by setup run e)) (sym c.requires.label) ∙ made_is setup run e c.requires.text) given
