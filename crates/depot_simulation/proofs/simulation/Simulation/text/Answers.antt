use Rattle.std.proofs.Common.{subst}
use Rattle.depot_schedule.specs.declared.event.Event.{Event}
use Rattle.depot_scenario.specs.Scenarios.{MayHappen}
use Rattle.depot_simulation.proofs.EventFields.{proof_kind}
use Rattle.depot_simulation.proofs.simulation.Simulation.text.Goals as goal

pub proof-requires-clause-kind : goal.proof-requires-clause-kind
proof-requires-clause-kind g c =
    let may = subst (λ (e : Event). MayHappen c.args.scenario.now.height c.args.scenario.now.members.now e) c.in-Proof.is c.requires.may in
    proof_kind may.before c.in-Proof.label c.in-Proof.kind c.in-Proof.first c.in-Proof.second may.fits
