use Rattle.std.proofs.Common.{subst, arith}
use Rattle.std.proofs.lemmas.Result.{IfOk-weaker}
use Rattle.depot_world.specs.FaultySigning as signing
use Rattle.depot_scenario.specs.ScenarioTexts.{IsText}
use Rattle.depot_simulation.proofs.MadeTexts.{hollow_is, long_text, no_voucher, signed_fits}
use Rattle.depot_simulation.proofs.simulation.Simulation.hollow.Goals as goal

pub returns-in_default-clause-is : goal.returns-in_default-clause-is
returns-in_default-clause-is g c = IfOk-weaker c.no_reference.result _ _ (λ t made setup run at.
    subst (λ (x : signing.Text). IsText t x) (no_voucher run c.args.voucher.now c.args.text.now (c.in_default.ensures setup run at)) made) c.no_reference.ensures

pub hollow-requires-clause-voucher : goal.hollow-requires-clause-voucher
hollow-requires-clause-voucher g c = let at = c.requires.at in signed_fits c.requires.run c.args.voucher.now c.in-Some.signed.now at.remembered (c.in-Some.ensures c.requires.setup c.requires.run at)

pub returns-then-bytes-gt-MOST_VALUE-clause-is : goal.returns-then-bytes-gt-MOST_VALUE-clause-is
returns-then-bytes-gt-MOST_VALUE-clause-is g c = IfOk-weaker c.no_reference-then-bytes-gt-MOST_VALUE.result _ _ (λ t made setup run at.
    subst (λ (x : signing.Text). IsText t x)
    (long_text run c.args.voucher.now c.args.text.now c.bytes_of-bytes.result.now c.in-Some.signed.now (c.in-Some.ensures setup run at) (c.bytes_of-bytes.ensures setup run at) (omega (arith, c.if-bytes-gt-MOST_VALUE.true))) made) c.no_reference-then-bytes-gt-MOST_VALUE.ensures

pub returns-clause-is : goal.returns-clause-is
returns-clause-is g c = IfOk-weaker c.hollow.result _ _ (λ t made setup run at.
    subst (λ (x : signing.Text). IsText t x)
    (hollow_is run c.args.voucher.now c.args.text.now c.bytes_of-bytes.result.now c.in-Some.signed.now (c.in-Some.ensures setup run at) (c.bytes_of-bytes.ensures setup run at) (omega (arith, c.if-bytes-gt-MOST_VALUE.false))) made) c.hollow.ensures
