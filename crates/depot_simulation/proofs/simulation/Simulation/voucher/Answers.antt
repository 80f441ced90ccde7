use Rattle.std.proofs.Common.{ℕ, ◌<◌, ◌^◌, ap, sym, subst, ◌∙◌}
use Rattle.std.proofs.lemmas.Result.{IfOk-weaker}
use Rattle.depot_model.specs.exchange.Bundle.{Signs}
use Rattle.depot_world.specs.FaultySigning as signing
use Rattle.depot_world.specs.Setups.{signs_on}
use Rattle.depot_scenario.specs.MemberSigners.{MemberSigner}
use Rattle.depot_scenario.specs.ScenarioTexts.{IsText}
use Rattle.depot_simulation.specs.Drafts.{HasLeaf}
use Rattle.depot_simulation.proofs.MadeTexts.{voucher_has_leaf, vouched_is, unvouched_is}
use Rattle.depot_simulation.proofs.simulation.Simulation.voucher.Given.{Over}
use Rattle.depot_simulation.proofs.simulation.Simulation.voucher.Goals as goal
use Rattle.depot_simulation.proofs.simulation.Simulation.voucher.Goals.{Start}

has_leaf : (g : Over) (c : Start g) → HasLeaf c.args.scenario.now.height c.args.scenario.now.members.now c.args.writer c.args.seq
has_leaf g c = voucher_has_leaf c.args.scenario.now.height c.args.scenario.now.members.now c.requires.may.0 c.args.writer c.args.seq c.args.refs.now c.requires.may.1

pub signer_of-requires-clause-declared : goal.signer_of-requires-clause-declared
signer_of-requires-clause-declared g c = (has_leaf g (goal.at.signer_of-requires-clause-declared g c).Start).declared

pub voucher-requires-clause-leaf : goal.voucher-requires-clause-leaf
voucher-requires-clause-leaf g c = subst (λ (h : ℕ). c.args.seq < 2 ^ h) (sym c.signer_of.ensures.height) (has_leaf g (goal.at.voucher-requires-clause-leaf g c).Start).leaf

pub returns-in-Some-clause-is : goal.returns-in-Some-clause-is
returns-in-Some-clause-is g c = IfOk-weaker c.voucher.result _ _ (λ t made setup run on at.
    let signs = ap (λ (h : MemberSigner). h.sign) (c.signer_of.ensures.signer setup on) in
    subst (λ (x : signing.Text). IsText t x)
    (ap (λ (sign : Signs). signing.voucher_text sign c.args.writer c.args.seq c.in-Some.ids) signs
    ∙ vouched_is (signs_on setup c.args.writer) run c.args.writer c.args.seq c.args.refs.now c.in-Some.ids (sym c.in-Some.is ∙ c.in_ok-ids.ensures.is setup run at)) made) c.voucher.ensures.text

pub returns-in-None-clause-is : goal.returns-in-None-clause-is
returns-in-None-clause-is g c = IfOk-weaker c.no_reference.result _ _ (λ t made setup run on at.
    subst (λ (x : signing.Text). IsText t x) (unvouched_is (signs_on setup c.args.writer) run c.args.writer c.args.seq c.args.refs.now (sym c.in-None.is ∙ c.in_ok-ids.ensures.is setup run at)) made) c.no_reference.ensures
