use Rattle.depot_model.specs.checks.Checks.{given_proof}
use Rattle.depot_readings.specs.ReadingsView.{standing}
use Rattle.depot_accept.specs.StateView.{setting}
use Rattle.depot_decide.proofs.Decided.{if_decided, decided_here}
use Rattle.depot_decide.proofs.proof_decision.decide_decoded.Goals as goal

pub returns-clause-decided : goal.returns-clause-decided
returns-clause-decided g c =
    if_decided c.decide_judged.result
    (λ d is. decided_here (standing g.S.Scheme.verifies c.args.readings.now) (setting g.S.Scheme.verifies c.state.result.now) c.args.readings.now.records (given_proof c.args.proof) d c.state.ensures.stands (is c.args.readings.now.records c.state.ensures.state))
    c.decide_judged.ensures.decided
