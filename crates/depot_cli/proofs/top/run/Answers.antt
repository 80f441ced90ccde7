use Rattle.std.proofs.Common.{Some, inr, refl, sym, append-nil}
use Rattle.std.proofs.lemmas.Result.{IfOk-weaker}
use Rattle.depot_outside.specs.Told.{loads, shelves, sinks}
use Rattle.depot_cli.specs.declared.invocation.Invocation.TheVariants as asked
use Rattle.depot_cli.specs.Runs.{AnswersCommand, Begins}
use Rattle.depot_cli.proofs.Endings.{finished}
use Rattle.depot_cli.proofs.top.run.Goals as goal

pub returns-in-Scan-clause-results : goal.returns-in-Scan-clause-results
returns-in-Scan-clause-results g c =
    let shelf = shelves g.F.Shelf c.args.shelf.now c.scan.new.shelf in
    let loaded = loads g.F.Shelf c.args.shelf.now c.scan.new.shelf in
    let command = Some (asked.Scan c.in-Scan.log c.in-Scan.key) in
    let names = rw c.text.ensures at c.scan.ensures.loads in
    let answered = IfOk-weaker c.scan.result _ _ (λ o is. (names, is)) (rw c.text.ensures at c.scan.ensures.scans) in
    rw c.in-Scan.is ((refl {a = c.args.disk.now}, (c.scan.ensures.files, c.scan.ensures.stores)), finished (AnswersCommand shelf loaded command) (Begins shelf loaded command) (sinks g.S.Sink c.args.out.now c.finish.new.out) c.scan.result c.finish.result answered (inr names, refl) c.finish.ensures.finishes)

pub returns-in-Key-clause-results : goal.returns-in-Key-clause-results
returns-in-Key-clause-results g c =
    let shelf = shelves g.F.Shelf c.args.shelf.now c.args.shelf.now in
    let loaded = loads g.F.Shelf c.args.shelf.now c.args.shelf.now in
    let command = Some (asked.Key c.in-Key.seed c.in-Key.height) in
    let answered = IfOk-weaker c.key.result _ _ (λ o is. (sym (append-nil (g.F.Shelf.loads c.args.shelf.now)), is)) c.key.ensures in
    rw c.in-Key.is ((refl {a = c.args.disk.now}, (refl {a = g.F.Shelf.file c.args.shelf.now}, refl {a = g.F.Shelf.stores c.args.shelf.now})), finished (AnswersCommand shelf loaded command) (Begins shelf loaded command) (sinks g.S.Sink c.args.out.now c.finish-in-Key.new.out) c.key.result c.finish-in-Key.result answered (sym (append-nil (g.F.Shelf.loads c.args.shelf.now)), refl) c.finish-in-Key.ensures.finishes)

pub returns-in-Judge-clause-results : goal.returns-in-Judge-clause-results
returns-in-Judge-clause-results g c =
    let shelf = shelves g.F.Shelf c.args.shelf.now c.judge.new.shelf in
    let loaded = loads g.F.Shelf c.args.shelf.now c.judge.new.shelf in
    let command = Some (asked.Judge c.in-Judge.roster c.in-Judge.proof) in
    let answered = rw (c.text-in-Judge.ensures, c.text-in-Judge-2.ensures) at c.judge.ensures.judges in
    rw c.in-Judge.is ((refl {a = c.args.disk.now}, (c.judge.ensures.files, c.judge.ensures.stores)), finished (AnswersCommand shelf loaded command) (Begins shelf loaded command) (sinks g.S.Sink c.args.out.now c.finish-in-Judge.new.out) c.judge.result c.finish-in-Judge.result answered (rw (c.text-in-Judge.ensures, c.text-in-Judge-2.ensures) at c.judge.ensures.loads, refl) c.finish-in-Judge.ensures.finishes)

pub returns-in-Replay-clause-results : goal.returns-in-Replay-clause-results
returns-in-Replay-clause-results g c = rw c.in-Replay.is ((refl {a = c.args.disk.now}, (c.replay.ensures.files, c.replay.ensures.stores)), rw c.text-in-Replay.ensures at c.replay.ensures.ends)

pub returns-in-Load-clause-results : goal.returns-in-Load-clause-results
returns-in-Load-clause-results g c =
    let shelf = shelves g.F.Shelf c.args.shelf.now c.args.shelf.now in
    let loaded = loads g.F.Shelf c.args.shelf.now c.args.shelf.now in
    let command = Some (asked.Load c.in-Load.number) in
    let answered = IfOk-weaker c.summed_up.result _ _ (λ o is. (sym (append-nil (g.F.Shelf.loads c.args.shelf.now)), is)) c.summed_up.ensures in
    rw c.in-Load.is ((refl {a = c.args.disk.now}, (refl {a = g.F.Shelf.file c.args.shelf.now}, refl {a = g.F.Shelf.stores c.args.shelf.now})), finished (AnswersCommand shelf loaded command) (Begins shelf loaded command) (sinks g.S.Sink c.args.out.now c.finish-in-Load.new.out) c.summed_up.result c.finish-in-Load.result answered (sym (append-nil (g.F.Shelf.loads c.args.shelf.now)), refl) c.finish-in-Load.ensures.finishes)

pub returns-in-Audit-clause-results : goal.returns-in-Audit-clause-results
returns-in-Audit-clause-results g c =
    let shelf = shelves g.F.Shelf c.args.shelf.now c.audit.new.shelf in
    let loaded = loads g.F.Shelf c.args.shelf.now c.audit.new.shelf in
    let command = Some (asked.Audit c.in-Audit.roster c.in-Audit.traces) in
    let answered = rw c.text-in-Audit.ensures at c.audit.ensures.audits in
    rw c.in-Audit.is ((refl {a = c.args.disk.now}, (c.audit.ensures.files, c.audit.ensures.stores)), finished (AnswersCommand shelf loaded command) (Begins shelf loaded command) (sinks g.S.Sink c.args.out.now c.finish-in-Audit.new.out) c.audit.result c.finish-in-Audit.result answered (rw c.text-in-Audit.ensures at c.audit.ensures.loads, refl) c.finish-in-Audit.ensures.finishes)
