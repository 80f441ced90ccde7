use Rattle.std.proofs.Common.{subst}
use Rattle.std.proofs.lemmas.Result.{IfOk-weaker}
use Rattle.depot_world.specs.FaultySigning as signing
use Rattle.depot_scenario.specs.ScenarioTexts.{IsText}
use Rattle.depot_simulation.proofs.MadeTexts.{proof_is, no_first, no_second, signed_fits}
use Rattle.depot_simulation.proofs.simulation.Simulation.proof.Goals as goal

pub returns-in_default-clause-is : goal.returns-in_default-clause-is
returns-in_default-clause-is g c = IfOk-weaker c.no_reference.result _ _ (λ t made setup run at.
    subst (λ (x : signing.Text). IsText t x) (no_first run c.args.kind c.args.first.now c.args.second.now (c.in_default.ensures setup run at)) made) c.no_reference.ensures

pub returns-in_default-signed_of-clause-is : goal.returns-in_default-signed_of-clause-is
returns-in_default-signed_of-clause-is g c = IfOk-weaker c.no_reference-in_default-signed_of.result _ _ (λ t made setup run at.
    subst (λ (x : signing.Text). IsText t x) (no_second run c.args.kind c.args.first.now c.args.second.now c.in-Some.one.now (c.in-Some.ensures setup run at) (c.in_default-signed_of.ensures setup run at)) made) c.no_reference-in_default-signed_of.ensures

pub proof-requires-clause-first : goal.proof-requires-clause-first
proof-requires-clause-first g c = let at = c.requires.played.at in signed_fits c.requires.played.run c.args.first.now c.in-Some.one.now at.remembered (c.in-Some.ensures c.requires.played.setup c.requires.played.run at)

pub proof-requires-clause-second : goal.proof-requires-clause-second
proof-requires-clause-second g c = let at = c.requires.played.at in signed_fits c.requires.played.run c.args.second.now c.in-Some-signed_of.other.now at.remembered (c.in-Some-signed_of.ensures c.requires.played.setup c.requires.played.run at)

pub returns-clause-is : goal.returns-clause-is
returns-clause-is g c = IfOk-weaker c.proof.result _ _ (λ t made setup run at.
    subst (λ (x : signing.Text). IsText t x)
    (proof_is run c.args.kind c.args.first.now c.args.second.now c.in-Some.one.now c.in-Some-signed_of.other.now (c.in-Some.ensures setup run at) (c.in-Some-signed_of.ensures setup run at)) made) c.proof.ensures
