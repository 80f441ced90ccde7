use Rattle.std.proofs.Common.{ℕ, List, sym, subst, arith}
use Rattle.depot_world.specs.Transcript.{pending_at}
use Rattle.depot_simulation.specs.Doing.{HasDone}
use Rattle.depot_simulation.proofs.NodeEvents.{left_is, place_within, pending_had_seen, stop_set}
use Rattle.depot_simulation.proofs.SeenCounts.{room_for_all}
use Rattle.depot_simulation.proofs.simulation.Simulation.arm.Goals as goal

pub come_back-requires-clause-place : goal.come_back-requires-clause-place
come_back-requires-clause-place g c =
    let l = c.requires.left.1 in
    omega (arith, place_within _ g.A.Actor.view c.requires.left.0 l.before c.args.self.now c.args.acting l.left, c.args.self.now.participants.ok.0)

pub come_back-requires-clause-seen : goal.come_back-requires-clause-seen
come_back-requires-clause-seen g c =
    let node = c.requires.left.0 in
    let l = c.requires.left.1 in
    let p = l.played in
    let i = left_is _ g.A.Actor.view g.A.Reader.Reading.reads p.setup p.run node l.before c.args.self.now c.args.acting l.left p.at in
    pending_had_seen _ g.A.Actor.view g.A.Reader.Reading.reads p.setup p.run node c.args.self.now c.args.acting c.in_ok-actor.actor c.args.call c.args.image i c.in_ok-actor.ensures

pub come_back-requires-clause-room : goal.come_back-requires-clause-room
come_back-requires-clause-room g c = room_for_all _ g.A.Actor.view g.A.Reader.Reading.reads c.requires.left.0 c.args.self.now c.args.acting c.in_ok-actor.actor (g.met.A.Actor.lawful c.in_ok-actor.actor) c.requires.left.1

pub returns-clause-lines : goal.returns-clause-lines
returns-clause-lines g c = λ node before left. λ setup run at.
    let view = g.A.Actor.view in
    let reads = g.A.Reader.Reading.reads in
    let i = left_is _ view reads setup run node before c.args.self.now c.args.acting left at in
    let after = c.in_ok-actor.actor in
    let set = stop_set _ view reads setup run node c.args.call c.args.image before c.args.self.now c.come_back.new.self c.args.acting after (g.met.A.Actor.lawful after) at i c.in_ok-actor.ensures
    c.in_ok-come_back.ensures.participants c.in_ok-come_back.ensures.seen c.in_ok-come_back.ensures.labels c.in_ok-come_back.ensures.readers in
    subst (λ (lines : List ℕ). HasDone g.row.A.Denot view reads setup (pending_at run node c.args.call c.args.image) lines c.come_back.new.self) (sym c.in_ok-from_slice.ensures) set
