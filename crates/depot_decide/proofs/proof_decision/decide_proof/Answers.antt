use Rattle.depot_base.specs.Closed.{closing}
use Rattle.std.proofs.Common.{refl}
use Rattle.depot_model.specs.checks.Checks.{given_proof}
use Rattle.depot_model.specs.texts.Texts.{proof}
use Rattle.depot_readings.specs.ReadingsView.{standing}
use Rattle.depot_decide.proofs.Decided.{decides_read, decodes_closing, if_decided}
use Rattle.depot_decide.proofs.proof_decision.decide_proof.Goals as goal

pub returns-in-Ok-clause-decided : goal.returns-in-Ok-clause-decided
returns-in-Ok-clause-decided g c =
    if_decided c.decide_decoded.result
    (λ d is. decides_read (closing proof) (λ p. given_proof p) (standing g.S.Scheme.verifies c.args.readings.now) c.args.readings.now.records c.args.text.now c.in-Ok.proof d.answer d.growth (decodes_closing proof _ _ c.in-Ok.ensures) is)
    c.decide_decoded.ensures.decided

pub decide_decoded-requires-clause-text : goal.decide_decoded-requires-clause-text
decide_decoded-requires-clause-text g c = (c.in-Ok.ensures.found c.in-Ok.proof refl).1
