use Rattle.std.proofs.Common.{rules, refl, subst}
use Rattle.std.proofs.lemmas.Result.{err_from_is_err_and}
use Rattle.depot_base.specs.Closed.{rest_of}
use Rattle.depot_model.specs.checks.Checks.{given_value}
use Rattle.depot_model.specs.checks.Taking.{as_value}
use Rattle.depot_model.proofs.of_journals.JournalCallLaws.{idle_call, never_stopped}
use Rattle.depot_readings.specs.ReadingsView as readings
use Rattle.depot_readings.specs.ReadingsView.{Known}
use Rattle.depot_decide.specs.Deciding.{DecidesValue}
use Rattle.depot_decide.proofs.Decided.{may_grow, takes_decided}
use Rattle.depot_node.specs.Holdings.{journal_on, node_setting}
use Rattle.depot_node.proofs.CallNames.{taken_call}
use Rattle.depot_node.proofs.GivenTexts.{value_given}
use Rattle.depot_node.proofs.take.take_value.Given.{Over}
use Rattle.depot_node.proofs.take.take_value.Goals as goal
use Rattle.depot_node.proofs.take.take_value.Goals.{In_ok-decision}

-- what is decided of the text
decided : (g : Over) (c : In_ok-decision g) → DecidesValue (node_setting g.S.Scheme.verifies c.args.store.now) c.args.store.now.records c.args.text.now c.in_ok-decision.decision.answer c.in_ok-decision.decision.growth
decided g c = subst (λ (r : Known). DecidesValue (readings.standing g.S.Scheme.verifies r) r.records c.args.text.now c.in_ok-decision.decision.answer c.in_ok-decision.decision.growth) c.readings.ensures c.in_ok-decision.ensures.decided

pub carry_out-requires-clause-may : goal.carry_out-requires-clause-may
unfolding rest_of
carry_out-requires-clause-may g c =
    may_grow (rest_of 65536) (λ v. given_value v) (node_setting g.S.Scheme.verifies c.args.store.now) c.args.store.now.records c.args.text.now c.in_ok-decision.decision.answer c.in_ok-decision.decision.growth (λ v fits. fits) c.requires.kept.lawful c.requires.kept.some (decided g (goal.at.carry_out-requires-clause-may g c).In_ok-decision)

pub returns-clause-takes : goal.returns-clause-takes
returns-clause-takes g c =
    takes_decided (rest_of 65536) (λ v. given_value v) (node_setting g.S.Scheme.verifies c.args.store.now) c.args.store.now.records c.args.text.now c.in_ok-decision.decision.answer c.in_ok-decision.decision.growth c.carry_out.result c.carry_out.new.store.records (decided g (goal.at.returns-clause-takes g c).In_ok-decision) c.carry_out.ensures.carried

pub returns-in_err-decision-clause-takes : goal.returns-in_err-decision-clause-takes
returns-in_err-decision-clause-takes g c = let p = err_from_is_err_and c.from_residual.result c.from_residual.ensures.1 in rw (p.1, p.2) refl

-- ---- the call

pub returns-then-is_stopped-clause-call : goal.returns-then-is_stopped-clause-call
returns-then-is_stopped-clause-call g c =
    idle_call (journal_on g.D.Disk) (λ v file left. g.met.D.Disk.only_now v.disk file left) (λ v. g.met.D.Disk.after_none v.disk) c.args.store.now _ (c.is_stopped.ensures.stable c.requires.kept.read) (λ s. search rules, λ was. refl) (λ e. cc)

pub returns-in_err-decision-clause-call : goal.returns-in_err-decision-clause-call
returns-in_err-decision-clause-call g c =
    let p = err_from_is_err_and c.from_residual.result c.from_residual.ensures.1 in
    rw (p.1, p.2) (idle_call (journal_on g.D.Disk) (λ v file left. g.met.D.Disk.only_now v.disk file left) (λ v. g.met.D.Disk.after_none v.disk) c.args.store.now _ (c.is_stopped.ensures.stable c.requires.kept.read) (never_stopped c.args.store.now.stopped (search rules) (λ s. cc)) (λ e. cc))

pub returns-clause-call : goal.returns-clause-call
returns-clause-call g c =
    taken_call g.D.Disk (λ v file left. g.met.D.Disk.only_now v.disk file left) (λ v. g.met.D.Disk.after_none v.disk) as_value (node_setting g.S.Scheme.verifies c.args.store.now) c.args.text.now c.in_ok-decision.decision.answer c.in_ok-decision.decision.growth c.args.store.now c.carry_out.new.store c.carry_out.result
    (c.is_stopped.ensures.stable c.requires.kept.read) (search rules) refl
    (λ result then carried. takes_decided (rest_of 65536) (λ v. given_value v) (node_setting g.S.Scheme.verifies c.args.store.now) c.args.store.now.records c.args.text.now c.in_ok-decision.decision.answer c.in_ok-decision.decision.growth result then (decided g (goal.at.returns-clause-call g c).In_ok-decision) carried) c.carry_out.ensures.carried c.carry_out.ensures.full c.carry_out.ensures.call

pub carry_out-requires-clause-given : goal.carry_out-requires-clause-given
carry_out-requires-clause-given g c = value_given (node_setting g.S.Scheme.verifies c.args.store.now) c.args.store.now.records c.args.text.now _ c.in_ok-decision.decision.answer c.in_ok-decision.decision.growth (decided g (goal.at.carry_out-requires-clause-given g c).In_ok-decision)
