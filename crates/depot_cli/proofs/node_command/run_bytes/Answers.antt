use Rattle.std.proofs.Common.{◌≡◌, ℕ, List, [], ◌++◌, codes, inl, inr, refl, sym, append-nil}
use Rattle.depot_answers.specs.AnswerTexts.{text_of_faulty_line}
use Rattle.depot_outside.specs.Told.{sinks}
use Rattle.depot_cli.specs.Runs.{IsNoScript}
use Rattle.depot_cli.specs.declared.status.Status.{Status}
use Rattle.depot_cli.specs.declared.status.Status.TheVariants.{Input}
use Rattle.depot_cli.proofs.Endings.{finished_by}
use Rattle.depot_cli.proofs.node_command.run_bytes.Goals as goal

pub returns-in-Err-Line-clause-runs : goal.returns-in-Err-Line-clause-runs
returns-in-Err-Line-clause-runs g c =
    let script = c.args.words.now.script in
    let line = codes "input " ++ script ++ codes " " ++ text_of_faulty_line c.in-Err-Line.number c.in-Err-Line.fault ++ codes "\n" in
    let first = rw c.in-Err-Line.field-0-is at c.in-Err-Line.ensures.parses in
    inl (
      (refl {a = c.args.disk.now}, (refl {a = g.F.Shelf.file c.args.shelf.now}, refl {a = g.F.Shelf.stores c.args.shelf.now})),
      (
        sym (append-nil (g.F.Shelf.loads c.args.shelf.now)),
        finished_by (λ (answer : Status) (text : List ℕ). (answer ≡ Input) × IsNoScript script text c.args.bytes.now) (λ (text : List ℕ). text ≡ []) (sinks g.S.Sink c.args.out.now c.finish.new.out) c.faulty_line-told.result (record { status = Input; text = line }) c.finish.result
            (rw c.text.ensures at c.faulty_line-told.ensures) (refl {a = Input}, record { number = c.in-Err-Line.number; fault = c.in-Err-Line.fault; first = first; is = refl {a = line} }) refl c.finish.ensures.finishes,
      ),
    )

pub returns-clause-runs : goal.returns-clause-runs
returns-clause-runs g c =
    let ran = c.run.ensures in
    let key = rw c.number.ensures.same at c.in-Ok-from_seed.ensures.key in
    let signature = rw c.number.ensures.same at c.in-Ok-from_seed.ensures.signature in
    inr (
      c.in-Ok.script,
      (
        c.in-Ok.ensures.found,
        (
          ran.loads,
          (
            c.run.result,
            (
              c.of.ensures,
              record {
                images = ran.file;
                stable = ran.stable;
                untouched = rw key at ran.untouched;
                begins = rw key at ran.begins;
                answers = rw (key, signature) at ran.answers;
                disk_failed = ran.disk_failed;
                sink_failed = ran.sink_failed;
              },
            ),
          ),
        ),
      ),
    )
