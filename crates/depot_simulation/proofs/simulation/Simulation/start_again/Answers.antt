use Rattle.std.proofs.Common.{arith}
use Rattle.depot_simulation.proofs.AskedEvents.{restart_done, restart_had_seen}
use Rattle.depot_simulation.proofs.NodeEvents.{left_is, place_within}
use Rattle.depot_simulation.proofs.SeenCounts.{room_for_all}
use Rattle.depot_simulation.proofs.simulation.Simulation.start_again.Goals as goal

pub come_back-requires-clause-place : goal.come_back-requires-clause-place
come_back-requires-clause-place g c =
    let l = c.requires.left.1 in
    omega (arith, place_within _ g.A.Actor.view c.requires.left.0 l.before c.args.self.now c.args.acting l.left, c.args.self.now.participants.ok.0)

pub come_back-requires-clause-seen : goal.come_back-requires-clause-seen
come_back-requires-clause-seen g c =
    let node = c.requires.left.0 in
    let l = c.requires.left.1 in
    let p = l.played in
    let t = c.in_ok-actor.field-0 in
    let i = left_is _ g.A.Actor.view g.A.Reader.Reading.reads p.setup p.run node l.before c.args.self.now c.args.acting l.left p.at in
    restart_had_seen _ g.A.Actor.view g.A.Reader.Reading.reads p.setup p.run node c.args.self.now c.args.acting i t.actor t.lines t.bytes (c.in_ok-actor.ensures p.setup i.host i.hosted)

pub come_back-requires-clause-room : goal.come_back-requires-clause-room
come_back-requires-clause-room g c = room_for_all _ g.A.Actor.view g.A.Reader.Reading.reads c.requires.left.0 c.args.self.now c.args.acting c.in_ok-actor.field-0.actor (g.met.A.Actor.lawful c.in_ok-actor.field-0.actor) c.requires.left.1

pub returns-clause-lines : goal.returns-clause-lines
returns-clause-lines g c = λ node before left. λ setup run at.
    let t = c.in_ok-actor.field-0 in
    let i = left_is _ g.A.Actor.view g.A.Reader.Reading.reads setup run node before c.args.self.now c.args.acting left at in
    restart_done _ g.A.Actor.view g.A.Reader.Reading.reads setup run node c.args.self.now c.args.acting i t.actor t.lines t.bytes before c.come_back.new.self (g.met.A.Actor.lawful t.actor) at (c.in_ok-actor.ensures setup i.host i.hosted)
    c.in_ok-come_back.ensures.participants c.in_ok-come_back.ensures.seen c.in_ok-come_back.ensures.labels c.in_ok-come_back.ensures.readers
