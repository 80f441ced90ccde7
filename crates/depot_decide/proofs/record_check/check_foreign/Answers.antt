use Rattle.std.proofs.Common.{arith}
use Rattle.depot_laws.proofs.records.LawfulRecords.{IsSigned-from_record}
use Rattle.depot_readings.specs.ReadingsView.{standing}
use Rattle.depot_decide.proofs.RecordChecks.{good_statement}
use Rattle.depot_decide.proofs.RecordParts.{signed_behind}
use Rattle.depot_decide.proofs.record_check.check_foreign.Goals as goal

pub decide_signed-requires-clause-signed : goal.decide_signed-requires-clause-signed
decide_signed-requires-clause-signed g c = IsSigned-from_record c.args.signed c.requires.text.fits

pub decide_signed-requires-clause-text : goal.decide_signed-requires-clause-text
decide_signed-requires-clause-text g c = signed_behind c.args.signed c.args.text.now c.behind_tag.result.now c.requires.text c.behind_tag.ensures

pub returns-clause-checked : goal.returns-clause-checked
returns-clause-checked g c =
    good_statement (standing g.S.Scheme.verifies c.args.readings.now) c.args.readings.now.records c.args.signed c.in_ok-decision.decision.answer c.in_ok-decision.decision.growth c.in_ok-fit.fit.growth
    c.in_ok-decision.ensures.decided c.in_ok-fit.ensures.taken (omega (arith, c.count.ensures, c.if-count-gt1.false))
