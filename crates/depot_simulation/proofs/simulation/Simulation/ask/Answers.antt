use Rattle.std.proofs.Common.{◌≡◌, ℕ, List, [], ◌∷◌, eqb, None, sym, subst, ◌∙◌}
use Rattle.std.specs.Prelude.{position}
use Rattle.std.proofs.lemmas.Result.{IfOk-weaker}
use Rattle.depot_world.specs.EventRequests.{label_by, request_in}
use Rattle.depot_world.specs.Transcript.{asked_at, done}
use Rattle.depot_simulation.specs.Doing.{HasDone}
use Rattle.depot_simulation.specs.declared.simulation.Simulation.{Simulation}
use Rattle.depot_simulation.proofs.AskedEvents.{asked_done, asked_nothing, asked_nowhere, is_asked}
use Rattle.depot_simulation.proofs.simulation.Simulation.ask.Goals as goal

pub serve-requires-clause-request : goal.serve-requires-clause-request
serve-requires-clause-request g c =
    let p = c.requires.played in
    is_asked _ (request_in p.run c.args.event.now) (sym c.in-Some.is ∙ c.in_ok-request.ensures p.setup p.run p.at) (c.requires.may p.run)

pub serve-requires-clause-left : goal.serve-requires-clause-left
serve-requires-clause-left g c = (c.node_asked.result, record { before = c.args.self.now; played = c.requires.played; left = c.in-Some-leave.ensures })

pub returns-in_default-clause-lines : goal.returns-in_default-clause-lines
returns-in_default-clause-lines g c = λ setup run at.
    subst (λ (lines : List ℕ). HasDone g.row.A.Denot g.A.Actor.view g.A.Reader.Reading.reads setup (done setup run c.args.event.now) lines c.args.self.now) (sym c.in_ok-from_slice.ensures)
    (asked_nothing g.row.A.Denot g.A.Actor.view g.A.Reader.Reading.reads setup run c.args.event.now c.requires.asks c.args.self.now (sym c.in_default.is ∙ c.in_ok-request.ensures setup run at) at)

pub returns-in-Some-leave-clause-lines : goal.returns-in-Some-leave-clause-lines
returns-in-Some-leave-clause-lines g c = IfOk-weaker c.serve.result _ _ (λ lines served setup run at.
    asked_done g.row.A.Denot g.A.Actor.view g.A.Reader.Reading.reads setup run c.args.event.now c.requires.asks _ lines c.serve.new.self (sym c.in-Some.is ∙ c.in_ok-request.ensures setup run at)
    (subst (λ (n : ℕ). HasDone g.row.A.Denot g.A.Actor.view g.A.Reader.Reading.reads setup (asked_at setup run n (label_by c.args.event.now) c.in-Some.request) lines c.serve.new.self) c.node_asked.ensures (served c.node_asked.result c.args.self.now c.in-Some-leave.ensures setup run at))) c.serve.ensures.lines

pub returns-in_ok-from_slice-in-None-clause-lines : goal.returns-in_ok-from_slice-in-None-clause-lines
returns-in_ok-from_slice-in-None-clause-lines g c = λ setup run at.
    let view = g.A.Actor.view in
    let reads = g.A.Reader.Reading.reads in
    let e = c.args.event.now in
    let none = subst (λ (n : ℕ). position (λ p. eqb (view p.actor).here.me n) c.args.self.now.participants.items ≡ None) c.node_asked.ensures c.in-None.ensures.1 in
    let here = asked_nowhere g.row.A.Denot view reads setup run e c.requires.asks _ c.args.self.now (sym c.in-Some.is ∙ c.in_ok-request.ensures setup run at) none at in
    let now = subst (λ (p : Simulation g.row.A.Denot _). HasDone g.row.A.Denot view reads setup (done setup run e) (10 ∷ []) p) (sym c.in-None.ensures.0) here in
    subst (λ (lines : List ℕ). HasDone g.row.A.Denot view reads setup (done setup run e) lines c.leave.new.self) (sym c.in_ok-from_slice-in-None.ensures) now
