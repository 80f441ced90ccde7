use Rattle.std.proofs.Common.{ℕ, List, [], ◌∷◌, None, sym, subst}
use Rattle.std.proofs.lemmas.Result.{IfOk-weaker}
use Rattle.depot_world.specs.ScheduleStops.{restart_by}
use Rattle.depot_simulation.specs.Doing.{HasDone, restarted_at}
use Rattle.depot_simulation.specs.declared.simulation.Simulation.{Simulation}
use Rattle.depot_simulation.proofs.NodeEvents.{nothing_done}
use Rattle.depot_simulation.proofs.simulation.Simulation.restart.Goals as goal

pub start_again-requires : goal.start_again-requires
start_again-requires g c = record { left = (c.args.node, record { before = c.args.self.now; played = c.requires.played; left = c.in-Some.ensures }) }

pub returns-in-Some-clause-lines : goal.returns-in-Some-clause-lines
returns-in-Some-clause-lines g c = IfOk-weaker c.start_again.result _ _ (λ lines done. done c.args.node c.args.self.now c.in-Some.ensures) c.start_again.ensures.lines

pub returns-in_ok-from_slice-in-None-clause-lines : goal.returns-in_ok-from_slice-in-None-clause-lines
returns-in_ok-from_slice-in-None-clause-lines g c = λ setup run at.
    let view = g.A.Actor.view in
    let reads = g.A.Reader.Reading.reads in
    let done = restarted_at run c.args.node in
    let here = nothing_done g.row.A.Denot view reads setup run c.args.node None (λ s. restart_by s.correct) c.args.self.now c.in-None.ensures.1 at in
    let now = subst (λ (p : Simulation g.row.A.Denot _). HasDone g.row.A.Denot view reads setup done (10 ∷ []) p) (sym c.in-None.ensures.0) here in
    subst (λ (lines : List ℕ). HasDone g.row.A.Denot view reads setup done lines c.leave.new.self) (sym c.in_ok-from_slice-in-None.ensures) now
