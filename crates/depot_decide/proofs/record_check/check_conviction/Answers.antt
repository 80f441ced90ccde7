use Rattle.depot_laws.proofs.records.LawfulRecords.{IsProof-from_record}
use Rattle.depot_readings.specs.ReadingsView.{standing}
use Rattle.depot_decide.proofs.RecordChecks.{checked_proof}
use Rattle.depot_decide.proofs.RecordParts.{proof_behind}
use Rattle.depot_decide.proofs.record_check.check_conviction.Goals as goal

pub decide_decoded-requires-clause-proof : goal.decide_decoded-requires-clause-proof
decide_decoded-requires-clause-proof g c = IsProof-from_record c.args.proof c.requires.text.fits

pub decide_decoded-requires-clause-text : goal.decide_decoded-requires-clause-text
decide_decoded-requires-clause-text g c = proof_behind c.args.proof c.args.text.now c.behind_tag.result.now c.requires.text c.behind_tag.ensures

pub returns-clause-checked : goal.returns-clause-checked
returns-clause-checked g c =
    checked_proof (standing g.S.Scheme.verifies c.args.readings.now) c.args.readings.now.records c.args.proof c.in_ok-decision.decision.answer c.in_ok-decision.decision.growth c.fit_of_new.result c.requires.place c.in_ok-decision.ensures.decided c.fit_of_new.ensures.taken
