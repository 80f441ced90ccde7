use Rattle.std.proofs.Common.{sym, ◌∙◌}
use Rattle.depot_accept.specs.StateView.{setting}
use Rattle.depot_decide.proofs.ProofAnswers.{accused_in_state, proof_refused, proof_known, proof_new}
use Rattle.depot_decide.proofs.proof_decision.settled.Goals as goal

pub returns-in-Some : goal.returns-in-Some
returns-in-Some g c = λ J state. proof_refused (setting g.S.Scheme.verifies c.args.state.now) J c.args.proof.now c.in-Some.check (sym c.in-Some.is ∙ c.in_ok-failed.ensures)

pub returns-then-is_convicted : goal.returns-then-is_convicted
returns-then-is_convicted g c = λ J state.
    proof_known (setting g.S.Scheme.verifies c.args.state.now) J c.args.proof.now (sym c.in_default.is ∙ c.in_ok-failed.ensures)
    (accused_in_state J c.args.state.now c.args.proof.now c.accused.result _ _ state c.accused.ensures c.is_convicted.ensures c.if-is_convicted.true)

pub returns : goal.returns
returns g c = λ J state.
    proof_new (setting g.S.Scheme.verifies c.args.state.now) J c.args.proof.now (sym c.in_default.is ∙ c.in_ok-failed.ensures)
    (accused_in_state J c.args.state.now c.args.proof.now c.accused.result _ _ state c.accused.ensures c.is_convicted.ensures c.if-is_convicted.false)
