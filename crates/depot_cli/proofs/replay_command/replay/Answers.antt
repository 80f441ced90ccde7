use Rattle.std.proofs.Common.{[], Some, inl, inr, refl, sym, append-nil}
use Rattle.depot_cli.specs.declared.invocation.Invocation.TheVariants.{Replay}
use Rattle.depot_cli.specs.declared.status.Status.TheVariants.{Shelf}
use Rattle.depot_outside.specs.Told.{loads, shelves, sinks}
use Rattle.depot_session.specs.Sessions.{shelf_line}
use Rattle.depot_cli.specs.Runs.{AnswersCommand, Begins}
use Rattle.depot_cli.proofs.Endings.{finished_by, replay_ends}
use Rattle.depot_cli.proofs.replay_command.replay.Goals as goal

pub returns-in-Ok-Some-clause-ends : goal.returns-in-Ok-Some-clause-ends
returns-in-Ok-Some-clause-ends g c =
    let shelf = shelves g.F.Shelf c.args.shelf.now c.load.new.shelf in
    let loaded = loads g.F.Shelf c.args.shelf.now c.load.new.shelf in
    let there = rw c.in-Ok-Some.field-0-is at c.in-Ok-Some.ensures.loaded in
    replay_ends shelf loaded c.args.name.now c.in-Ok-Some.bytes (sinks g.S.Sink c.args.out.now c.replay_bytes.new.out) c.replay_bytes.result c.load.ensures.loads there.0 c.replay_bytes.ensures.ends

pub returns-in-Ok-None-clause-ends : goal.returns-in-Ok-None-clause-ends
returns-in-Ok-None-clause-ends g c =
    let shelf = shelves g.F.Shelf c.args.shelf.now c.load.new.shelf in
    let loaded = loads g.F.Shelf c.args.shelf.now c.load.new.shelf in
    let command = Some (Replay c.args.name.now) in
    let line = shelf_line c.args.name.now in
    let lacks = rw c.in-Ok-None.field-0-is at c.in-Ok-None.ensures.loaded in
    finished_by (AnswersCommand shelf loaded command) (Begins shelf loaded command) (sinks g.S.Sink c.args.out.now c.finish.new.out) c.no_file.result (record { status = Shelf; text = line }) c.finish.result c.no_file.ensures (c.load.ensures.loads, (lacks, refl {a = line})) (inr c.load.ensures.loads, inl refl) c.finish.ensures.finishes

pub returns-in-Err-clause-ends : goal.returns-in-Err-clause-ends
returns-in-Err-clause-ends g c = inr (inl (record { is = refl; text = []; begun = (inr c.load.ensures.loads, inl refl); wrote = λ told. sym (append-nil (g.S.Sink.written c.args.out.now)) }))
