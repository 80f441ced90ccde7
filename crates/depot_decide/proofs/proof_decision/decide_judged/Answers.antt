use Rattle.std.proofs.Common.{[], ◌∷◌, Ok, subst}
use Rattle.depot_base.specs.declared.record.Record.TheVariants.{Conviction}
use Rattle.depot_model.specs.declared.taken.Taken.TheVariants.{New}
use Rattle.depot_model.specs.checks.Checks.{given_proof}
use Rattle.depot_accept.specs.StateView.{setting}
use Rattle.depot_decide.specs.Deciding.{IsSettled}
use Rattle.depot_decide.proofs.Decided.{made_decision, made_growth}
use Rattle.depot_decide.proofs.proof_decision.decide_judged.Goals as goal

pub returns-in-Some-clause-decided : goal.returns-in-Some-clause-decided
returns-in-Some-clause-decided g c = λ J state.
    let here = setting g.S.Scheme.verifies c.args.state.now in
    made_decision here J (given_proof c.args.proof) c.in-Some.answer [] _ c.of.ensures (subst (IsSettled here J c.args.proof) c.in-Some.is (c.in-Ok.ensures J state))

pub returns-clause-decided : goal.returns-clause-decided
returns-clause-decided g c = λ J state.
    let here = setting g.S.Scheme.verifies c.args.state.now in
    made_growth here J (given_proof c.args.proof) (Ok New) (Conviction c.args.proof ∷ []) _ c.given_conviction.ensures (subst (IsSettled here J c.args.proof) c.in_default-answer.is (c.in-Ok.ensures J state))
