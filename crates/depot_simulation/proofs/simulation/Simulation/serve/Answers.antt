use Rattle.std.proofs.Common.{sym, subst, arith}
use Rattle.depot_scenario.specs.Labels.{AreLabels}
use Rattle.depot_scenario.specs.declared.label_table.Labels.{Labels}
use Rattle.depot_world.specs.Setups.{signs_on, stands_on}
use Rattle.depot_simulation.proofs.AskedEvents.{request_done, request_had_seen}
use Rattle.depot_simulation.proofs.KeptReads.{tells_on}
use Rattle.depot_simulation.proofs.NodeEvents.{left_is, place_within}
use Rattle.depot_simulation.proofs.SeenCounts.{room_for_all}
use Rattle.depot_simulation.proofs.simulation.Simulation.serve.Goals as goal

pub come_back-requires-clause-place : goal.come_back-requires-clause-place
come_back-requires-clause-place g c =
    let l = c.requires.left.1 in
    omega (arith, place_within _ g.A.Actor.view c.requires.left.0 l.before c.args.self.now c.args.acting l.left, c.args.self.now.participants.ok.0)

pub come_back-requires-clause-seen : goal.come_back-requires-clause-seen
come_back-requires-clause-seen g c =
    let node = c.requires.left.0 in
    let l = c.requires.left.1 in
    let p = l.played in
    let t = c.in_ok-actor.field-0 in
    let i = left_is _ g.A.Actor.view g.A.Reader.Reading.reads p.setup p.run node l.before c.args.self.now c.args.acting l.left p.at in
    request_had_seen _ g.A.Actor.view g.A.Reader.Reading.reads p.setup p.run node c.args.self.now c.args.acting i t.actor t.lines t.bytes c.args.request (c.in_ok-actor.ensures p.setup i.host i.hosted)

pub come_back-requires-clause-room : goal.come_back-requires-clause-room
come_back-requires-clause-room g c = room_for_all _ g.A.Actor.view g.A.Reader.Reading.reads c.requires.left.0 c.args.self.now c.args.acting c.in_ok-actor.field-0.actor (g.met.A.Actor.lawful c.in_ok-actor.field-0.actor) c.requires.left.1

pub returns-clause-lines : goal.returns-clause-lines
returns-clause-lines g c = λ node before left. λ setup run at.
    let t = c.in_ok-actor.field-0 in
    let i = left_is _ g.A.Actor.view g.A.Reader.Reading.reads setup run node before c.args.self.now c.args.acting left at in
    let n = i.host.correct.node in
    let reads = c.note_read.new.reads in
    let noted = c.in_ok-note_read.ensures in
    let told = tells_on setup (stands_on setup n) (signs_on setup n) c.args.request i.host (g.A.Actor.view c.args.acting.actor) c.args.acting.reads reads i.hosted (g.met.A.Actor.to_come c.args.acting.actor) i.told noted.told (noted.fit i.told.fit) in
    request_done _ g.A.Actor.view g.A.Reader.Reading.reads setup run node c.args.self.now c.args.acting i t.actor t.lines t.bytes c.args.request _ before (record c.come_back.new.self { labels = c.keep.new.self }) reads (g.met.A.Actor.lawful t.actor) at
    (c.in_ok-actor.ensures setup i.host i.hosted) told c.in_ok-come_back.ensures.participants c.in_ok-come_back.ensures.seen
    (λ labels are. c.in_ok-keep.ensures labels (subst (λ (x : Labels). AreLabels x.map.entries labels) (sym c.in_ok-come_back.ensures.labels) are)) c.in_ok-come_back.ensures.readers
