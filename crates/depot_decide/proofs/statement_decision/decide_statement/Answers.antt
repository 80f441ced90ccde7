use Rattle.depot_base.specs.Closed.{closing}
use Rattle.std.proofs.Common.{refl}
use Rattle.depot_model.specs.checks.Checks.{given_statement}
use Rattle.depot_model.specs.texts.Texts.{signed}
use Rattle.depot_readings.specs.ReadingsView.{standing}
use Rattle.depot_decide.proofs.Decided.{decides_read, decodes_closing, if_decided}
use Rattle.depot_decide.proofs.statement_decision.decide_statement.Goals as goal

pub returns-in-Ok-clause-decided : goal.returns-in-Ok-clause-decided
returns-in-Ok-clause-decided g c =
    if_decided c.decide_signed.result
    (λ d is. decides_read (closing signed) (λ s. given_statement s) (standing g.S.Scheme.verifies c.args.readings.now) c.args.readings.now.records c.args.text.now c.in-Ok.signed d.answer d.growth (decodes_closing signed _ _ c.in-Ok.ensures) is)
    c.decide_signed.ensures.decided

pub decide_signed-requires-clause-text : goal.decide_signed-requires-clause-text
decide_signed-requires-clause-text g c = (c.in-Ok.ensures.found c.in-Ok.signed refl).1
