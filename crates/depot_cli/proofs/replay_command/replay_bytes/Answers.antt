use Rattle.std.proofs.Common.{◌++◌, codes, inl, refl}
use Rattle.depot_answers.specs.AnswerTexts.{text_of_faulty_line}
use Rattle.depot_outside.specs.Told.{sinks}
use Rattle.depot_cli.specs.Runs.{IsFrontOf, IsReplayed, ReplayOf}
use Rattle.depot_cli.specs.declared.status.Status.TheVariants.{Input}
use Rattle.depot_cli.proofs.Endings.{finished_by, replayed}
use Rattle.depot_cli.proofs.replay_command.replay_bytes.Goals as goal

pub returns-in-Ok-clause-ends : goal.returns-in-Ok-clause-ends
returns-in-Ok-clause-ends g c =
    let read = c.in-Ok.ensures.found in
    let laws = c.worlds_of_schedules_are_causal.ensures in
    let schedule = c.in-Ok.schedule in
    replayed c.args.name.now c.args.bytes schedule (sinks g.S.Sink c.args.out.now c.play.new.out) c.play.result read (laws.causal schedule read.has) (laws.convicts schedule read.has)
    (λ authentic. laws.pairs schedule read.has authentic) c.play.ensures.plays

pub returns-in-Err-Line-clause-ends : goal.returns-in-Err-Line-clause-ends
returns-in-Err-Line-clause-ends g c =
    let name = c.args.name.now in
    let bytes = c.args.bytes in
    let line = codes "input " ++ name ++ codes " " ++ text_of_faulty_line c.in-Err-Line.number c.in-Err-Line.fault ++ codes "\n" in
    let first = rw c.in-Err-Line.field-0-is at c.in-Err-Line.ensures.parses in
    finished_by (ReplayOf name bytes) (IsFrontOf (λ text. IsReplayed text bytes)) (sinks g.S.Sink c.args.out.now c.finish.new.out) c.faulty_line.result (record { status = Input; text = line }) c.finish.result c.faulty_line.ensures
    (record { number = c.in-Err-Line.number; fault = c.in-Err-Line.fault; first = first; is = refl {a = line} }) (inl refl) c.finish.ensures.finishes
