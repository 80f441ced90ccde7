use Rattle.std.proofs.Common.{subst}
use Rattle.depot_base.specs.Writes.{one_change}
use Rattle.depot_schedule.specs.declared.event.Event.{Event}
use Rattle.depot_scenario.specs.Scenarios.{MayHappen}
use Rattle.depot_simulation.proofs.MadeTexts.{IsSignedThere, update_there, updates_there}
use Rattle.depot_simulation.proofs.SeenCounts.{room_for_one}
use Rattle.depot_simulation.proofs.simulation.Simulation.signed.Given.{Over}
use Rattle.depot_simulation.proofs.simulation.Simulation.signed.Goals as goal
use Rattle.depot_simulation.proofs.simulation.Simulation.signed.Goals.{In-Update, In-Updates}

-- what the event says of one change, and of several
one_there : (g : Over) (c : In-Update g) → IsSignedThere c.args.scenario.now.height c.args.scenario.now.members.now c.in-Update.writer c.in-Update.seq c.in-Update.clock (one_change c.in-Update.key c.in-Update.value) c.in-Update.deps c.in-Update.history
one_there g c =
    let may = subst (λ (e : Event). MayHappen c.args.scenario.now.height c.args.scenario.now.members.now e) c.in-Update.is c.requires.may in
    update_there c.args.scenario.now.height c.args.scenario.now.members.now c.in-Update.label c.in-Update.writer c.in-Update.seq c.in-Update.clock c.in-Update.prev c.in-Update.key c.in-Update.value c.in-Update.deps c.in-Update.history may

several_there : (g : Over) (c : In-Updates g) → IsSignedThere c.args.scenario.now.height c.args.scenario.now.members.now c.in-Updates.writer c.in-Updates.seq c.in-Updates.clock c.in-Updates.changes c.in-Updates.deps c.in-Updates.history
several_there g c =
    let may = subst (λ (e : Event). MayHappen c.args.scenario.now.height c.args.scenario.now.members.now e) c.in-Updates.is c.requires.may in
    updates_there c.args.scenario.now.height c.args.scenario.now.members.now c.in-Updates.label c.in-Updates.writer c.in-Updates.seq c.in-Updates.clock c.in-Updates.prev c.in-Updates.changes c.in-Updates.deps c.in-Updates.history may

pub given-requires-clause-leaf : goal.given-requires-clause-leaf
given-requires-clause-leaf g c = (one_there g (goal.at.given-requires-clause-leaf g c).In-Update).leaf

pub given-requires-in-Updates-clause-leaf : goal.given-requires-in-Updates-clause-leaf
given-requires-in-Updates-clause-leaf g c = (several_there g (goal.at.given-requires-in-Updates-clause-leaf g c).In-Updates).leaf

pub given-requires-clause-room : goal.given-requires-clause-room
given-requires-clause-room g c = room_for_one g.A.Actor.view g.A.Reader.Reading.reads c.args.self.now c.requires.played

pub given-requires-in-Updates-clause-room : goal.given-requires-in-Updates-clause-room
given-requires-in-Updates-clause-room g c = room_for_one g.A.Actor.view g.A.Reader.Reading.reads c.args.self.now c.requires.played

pub updated-requires-clause-fits : goal.updated-requires-clause-fits
updated-requires-clause-fits g c =
    rw (c.as_slice.ensures, c.as_slice-in-Update.ensures, c.in_ok-changes-in-Update.ensures, c.in_ok-copy-in-Update.ensures, c.in_ok-copy-in-Update-2.ensures) (one_there g (goal.at.updated-requires-clause-fits g c).In-Update).may

pub updated-requires-in-Updates-clause-fits : goal.updated-requires-in-Updates-clause-fits
updated-requires-in-Updates-clause-fits g c = rw (c.as_slice-in-Updates.ensures, c.as_slice-in-Updates-2.ensures) (several_there g (goal.at.updated-requires-in-Updates-clause-fits g c).In-Updates).may
