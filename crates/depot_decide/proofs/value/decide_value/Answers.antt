use Rattle.std.proofs.Common.{sym, subst}
use Rattle.depot_readings.specs.ReadingsView.{standing}
use Rattle.depot_decide.specs.Deciding.{DecidesValue}
use Rattle.depot_decide.specs.declared.decision.Decision.{Decision}
use Rattle.depot_decide.proofs.Decided.{if_decided}
use Rattle.depot_decide.proofs.ValueAnswers.{too_long, decides_value}
use Rattle.depot_decide.proofs.value.decide_value.Goals as goal

pub returns-then-text-gt-MOST_VALUE-clause-decided : goal.returns-then-text-gt-MOST_VALUE-clause-decided
returns-then-text-gt-MOST_VALUE-clause-decided g c =
    let here = standing g.S.Scheme.verifies c.args.readings.now in
    subst (λ (d : Decision). DecidesValue here c.args.readings.now.records c.args.text.now d.answer d.growth) (sym c.of.ensures) (too_long here c.args.readings.now.records c.args.text.now c.if-text-gt-MOST_VALUE.true)

pub returns-clause-decided : goal.returns-clause-decided
returns-clause-decided g c =
    if_decided c.decide_short.result (λ d is. decides_value (standing g.S.Scheme.verifies c.args.readings.now) c.args.readings.now.records c.args.text.now d.answer d.growth c.if-text-gt-MOST_VALUE.false is) c.decide_short.ensures.decided
