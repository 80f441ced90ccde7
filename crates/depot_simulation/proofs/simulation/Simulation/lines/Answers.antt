use Rattle.std.proofs.Common.{subst, sym}
use Rattle.std.proofs.lemmas.Result.{IfOk-weaker}
use Rattle.depot_schedule.specs.declared.event.Event.{Event}
use Rattle.depot_world.specs.Transcript.{done}
use Rattle.depot_scenario.specs.Scenarios.{MayHappen}
use Rattle.depot_simulation.specs.Doing.{HasDone}
use Rattle.depot_simulation.proofs.EventFields.{may_ask, stop_sizes}
use Rattle.depot_simulation.proofs.simulation.Simulation.lines.Goals as goal

pub stop-requires-clause-call : goal.stop-requires-clause-call
stop-requires-clause-call g c =
    let may = subst (λ (e : Event). MayHappen c.args.scenario.now.height c.args.scenario.now.members.now e) c.in-Stop.is c.requires.may in
    (stop_sizes may.before c.in-Stop.node c.in-Stop.call c.in-Stop.image may.fits).call_least

pub stop-requires-clause-most : goal.stop-requires-clause-most
stop-requires-clause-most g c =
    let may = subst (λ (e : Event). MayHappen c.args.scenario.now.height c.args.scenario.now.members.now e) c.in-Stop.is c.requires.may in
    (stop_sizes may.before c.in-Stop.node c.in-Stop.call c.in-Stop.image may.fits).call_most

pub stop-requires-clause-image : goal.stop-requires-clause-image
stop-requires-clause-image g c =
    let may = subst (λ (e : Event). MayHappen c.args.scenario.now.height c.args.scenario.now.members.now e) c.in-Stop.is c.requires.may in
    (stop_sizes may.before c.in-Stop.node c.in-Stop.call c.in-Stop.image may.fits).image_most

pub returns-in-Judge-clause-lines : goal.returns-in-Judge-clause-lines
unfolding done
returns-in-Judge-clause-lines g c = IfOk-weaker c.judge.result _ _ (λ lines told setup run on sound at.
    subst (λ (e : Event). HasDone g.row.A.Denot g.A.Actor.view g.A.Reader.Reading.reads setup (done setup run e) lines c.args.self.now) (sym c.in-Judge.is) (told setup run on at)) c.judge.ensures

pub returns-in-Stop-clause-lines : goal.returns-in-Stop-clause-lines
unfolding done
returns-in-Stop-clause-lines g c = IfOk-weaker c.stop.result _ _ (λ lines told setup run on sound at.
    subst (λ (e : Event). HasDone g.row.A.Denot g.A.Actor.view g.A.Reader.Reading.reads setup (done setup run e) lines c.stop.new.self) (sym c.in-Stop.is) (told setup run at)) c.stop.ensures.lines

pub returns-in-Restart-clause-lines : goal.returns-in-Restart-clause-lines
unfolding done
returns-in-Restart-clause-lines g c = IfOk-weaker c.restart.result _ _ (λ lines told setup run on sound at.
    subst (λ (e : Event). HasDone g.row.A.Denot g.A.Actor.view g.A.Reader.Reading.reads setup (done setup run e) lines c.restart.new.self) (sym c.in-Restart.is) (told setup run at)) c.restart.ensures.lines

pub ask-requires-clause-may : goal.ask-requires-clause-may
ask-requires-clause-may g c = may_ask c.requires.may.before c.args.event.now c.requires.may.fits

pub returns-in-Audit-clause-lines : goal.returns-in-Audit-clause-lines
unfolding done
returns-in-Audit-clause-lines g c = IfOk-weaker c.audit.result _ _ (λ lines told setup run on sound at.
    subst (λ (e : Event). HasDone g.row.A.Denot g.A.Actor.view g.A.Reader.Reading.reads setup (done setup run e) lines c.args.self.now) (sym c.in-Audit.is) (told setup run on sound at)) c.audit.ensures

pub returns-in-Trim-clause-lines : goal.returns-in-Trim-clause-lines
unfolding done
returns-in-Trim-clause-lines g c = IfOk-weaker c.trim.result _ _ (λ lines told setup run on sound at.
    subst (λ (e : Event). HasDone g.row.A.Denot g.A.Actor.view g.A.Reader.Reading.reads setup (done setup run e) lines c.trim.new.self) (sym c.in-Trim.is) (told setup run at)) c.trim.ensures.lines

pub returns-in-Tgive-clause-lines : goal.returns-in-Tgive-clause-lines
unfolding done
returns-in-Tgive-clause-lines g c = IfOk-weaker c.tgive.result _ _ (λ lines told setup run on sound at.
    subst (λ (e : Event). HasDone g.row.A.Denot g.A.Actor.view g.A.Reader.Reading.reads setup (done setup run e) lines c.tgive.new.self) (sym c.in-Tgive.is) (told setup run at)) c.tgive.ensures.lines

pub returns-in-Tget-clause-lines : goal.returns-in-Tget-clause-lines
unfolding done
returns-in-Tget-clause-lines g c = IfOk-weaker c.tget.result _ _ (λ lines told setup run on sound at.
    subst (λ (e : Event). HasDone g.row.A.Denot g.A.Actor.view g.A.Reader.Reading.reads setup (done setup run e) lines c.tget.new.self) (sym c.in-Tget.is) (told setup run at)) c.tget.ensures.lines
