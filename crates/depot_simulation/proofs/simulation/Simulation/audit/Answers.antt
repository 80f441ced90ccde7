use Rattle.std.proofs.Common.{arith}
use Rattle.std.proofs.lemmas.Result.{IfOk-weaker}
use Rattle.depot_simulation.proofs.PlayedAudits.{are_apart, are_members, audit_done, many_traces, parts_may, traces_are}
use Rattle.depot_simulation.proofs.simulation.Simulation.audit.Goals as goal

pub traces-requires : goal.traces-requires
traces-requires g c = let p = c.requires in parts_may g.A.Actor.view p.setup p.run.hosts c.args.self.now.participants.items p.at.hosted p.sound.few

pub audit-requires-clause-some : goal.audit-requires-clause-some
audit-requires-clause-some g c =
    let p = c.requires in
    let are = traces_are g.A.Actor.view g.A.Reader.Reading.reads p.setup p.run c.args.self.now c.in_ok-traces.traces c.in_ok-traces.ensures.are p.at in
    omega (arith, many_traces p.run c.in_ok-traces.traces are, p.sound.some)

pub audit-requires-clause-few : goal.audit-requires-clause-few
audit-requires-clause-few g c =
    let p = c.requires in
    let are = traces_are g.A.Actor.view g.A.Reader.Reading.reads p.setup p.run c.args.self.now c.in_ok-traces.traces c.in_ok-traces.ensures.are p.at in
    omega (arith, many_traces p.run c.in_ok-traces.traces are, p.sound.most)

pub audit-requires-clause-distinct : goal.audit-requires-clause-distinct
audit-requires-clause-distinct g c =
    let p = c.requires in
    let are = traces_are g.A.Actor.view g.A.Reader.Reading.reads p.setup p.run c.args.self.now c.in_ok-traces.traces c.in_ok-traces.ensures.are p.at in
    are_apart p.setup p.run c.in_ok-traces.traces p.sound are

pub audit-requires-clause-members : goal.audit-requires-clause-members
audit-requires-clause-members g c =
    let p = c.requires in
    let are = traces_are g.A.Actor.view g.A.Reader.Reading.reads p.setup p.run c.args.self.now c.in_ok-traces.traces c.in_ok-traces.ensures.are p.at in
    are_members p.setup p.run c.args.scenario.now.roster.now c.in_ok-traces.traces p.sound p.on.listed_is are

pub returns : goal.returns
returns g c = IfOk-weaker c.finding_line.result _ _ (λ lines told setup run on sound at.
    let are = traces_are g.A.Actor.view g.A.Reader.Reading.reads setup run c.args.self.now c.in_ok-traces.traces c.in_ok-traces.ensures.are at in
    audit_done g.row.A.Denot g.A.Actor.view g.A.Reader.Reading.reads setup run g.S.Scheme.verifies c.args.scenario.now.roster.now c.in_ok-traces.traces c.in_ok-found.found lines c.args.self.now sound on.verifies_is on.listed_is are c.in_ok-found.ensures told at) c.finding_line.ensures
