use Rattle.std.proofs.Common.{◌∙◌, refl, sym}
use Rattle.depot_simulation.specs.Playing.{participant_by}
use Rattle.depot_simulation.proofs.HostPlaces.{no_host_place, own_at}
use Rattle.depot_simulation.proofs.simulation.Simulation.own_update.Goals as goal

pub returns-in_err-place : goal.returns-in_err-place
returns-in_err-place g c = λ setup run at.
    let none = no_host_place (participant_by g.A.Actor.view) setup run.hosts c.args.self.now.participants.items c.args.node at.hosted (sym c.in_err-place.ensures) in
    rw (c.from_residual.ensures, none) refl

pub returns : goal.returns
returns g c = λ setup run at. c.own_update.ensures ∙ own_at (participant_by g.A.Actor.view) setup run.hosts c.args.self.now.participants.items c.args.node c.in_ok-place.place c.args.seq c.index.result.now at.hosted c.in_ok-place.ensures c.index.ensures
