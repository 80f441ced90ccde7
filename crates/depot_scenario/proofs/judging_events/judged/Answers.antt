use Rattle.depot_scenario.proofs.JudgedLaws.{verdict_told, point_told}
use Rattle.depot_scenario.proofs.judging_events.judged.Goals as goal

pub returns-in-Ok-clause-answer : goal.returns-in-Ok-clause-answer
returns-in-Ok-clause-answer g c =
    verdict_told g.S.Scheme.verifies c.args.roster.now c.args.bytes.now c.payload_of.result.now c.in-Ok.shown c.spaced_verdict.result c.payload_of.ensures c.in-Ok.ensures.judgement c.spaced_verdict.ensures

pub returns-in-Err-clause-answer : goal.returns-in-Err-clause-answer
returns-in-Err-clause-answer g c =
    point_told g.S.Scheme.verifies c.args.roster.now c.args.bytes.now c.payload_of.result.now c.in-Err.failed c.spaced_point.result c.payload_of.ensures c.in-Err.ensures.judgement c.spaced_point.ensures.found c.spaced_point.ensures.text
