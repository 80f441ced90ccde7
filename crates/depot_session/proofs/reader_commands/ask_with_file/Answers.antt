use Rattle.std.proofs.Common.{refl, sym, ap, ◌∙◌, arith}
use Rattle.std.specs.Prelude.{is_some}
use Rattle.std.proofs.lemmas.Result.{on_ok_weaker}
use Rattle.depot_outside.specs.Told.{shelves, sinks}
use Rattle.depot_session.specs.declared.ending.ScriptEnding.TheVariants as ending
use Rattle.depot_session.proofs.LastReaders.{file_kept}
use Rattle.depot_session.proofs.ReaderTurns.{not_without_memory, reader_absent, reader_loads, reader_names}
use Rattle.depot_session.proofs.ToldFaults.{names_fault, names_memory, never_rose}
use Rattle.depot_session.proofs.on_disks.Uncalled.{keeps_uncalled, uncalled_without_file, uncalled_without_memory}
use Rattle.depot_session.proofs.reader_commands.ask_with_file.Goals as goal

-- ---- no memory was found for the file

pub returns-in_err-bytes-clause-keeps : goal.returns-in_err-bytes-clause-keeps
returns-in_err-bytes-clause-keeps g c = keeps_uncalled g.R.NodeState c.args.node.now c.requires.running (g.met.R.Replica.only_now) (g.met.R.Replica.after_none) (g.met.R.Replica.lawful c.args.node.now) _ _ (names_memory _ _ (omega arith) _ c.from_residual.ensures.1 (never_rose _ _))

pub returns-in_err-bytes-clause-turns : goal.returns-in_err-bytes-clause-turns
returns-in_err-bytes-clause-turns g c = λ s tells at keeps.
    uncalled_without_memory g.R.NodeState c.args.node.now c.requires.running s c.args.command.now (shelves g.F.Shelf c.args.shelf.now c.load.new.shelf) (sinks g.K.Sink c.args.out.now c.args.out.now) at (λ name. ap (λ files. files name) c.load.ensures.files) c.from_residual.result c.from_residual.ensures.1 refl

pub returns-in_err-bytes-clause-reader : goal.returns-in_err-bytes-clause-reader
returns-in_err-bytes-clause-reader g c = not_without_memory c.from_residual.result _ c.from_residual.ensures.1

pub returns-in_err-bytes-clause-somebodys : goal.returns-in_err-bytes-clause-somebodys
returns-in_err-bytes-clause-somebodys g c = not_without_memory c.from_residual.result _ c.from_residual.ensures.1

pub returns-in_err-bytes-clause-loads : goal.returns-in_err-bytes-clause-loads
returns-in_err-bytes-clause-loads g c = rw (reader_loads (is_some c.args.last.now.made) c.args.command.now c.args.file.now c.requires.command) c.load.ensures.loads

-- ---- the file isn't there

pub returns-in_default-clause-keeps : goal.returns-in_default-clause-keeps
returns-in_default-clause-keeps g c =
    keeps_uncalled g.R.NodeState c.args.node.now c.requires.running (g.met.R.Replica.only_now) (g.met.R.Replica.after_none) (g.met.R.Replica.lawful c.args.node.now) _ _ (names_fault _ _ c.no_file.ensures.later _ ending.Shelf c.no_file.result tt c.no_file.ensures.told c.no_file.ensures.only)

pub returns-in_default-clause-turns : goal.returns-in_default-clause-turns
returns-in_default-clause-turns g c = λ s tells at keeps.
    uncalled_without_file g.R.NodeState c.args.node.now c.requires.running s c.args.command.now (shelves g.F.Shelf c.args.shelf.now c.load.new.shelf) (sinks g.K.Sink c.args.out.now c.no_file.new.out) at (λ name. ap (λ files. files name) c.load.ensures.files) c.args.file.now c.no_file.result
    (reader_names _ c.args.command.now c.args.file.now c.requires.command) (reader_absent _ _ s c.args.command.now c.args.file.now (file_kept g.S.Scheme.verifies c.args.last.now.made s.reader c.args.command.now c.args.file.now keeps c.requires.command)) tells
    (rw c.in_default.is at c.in_ok-bytes.ensures.loaded) c.no_file.ensures.told

pub returns-in_default-clause-loads : goal.returns-in_default-clause-loads
returns-in_default-clause-loads g c = rw (reader_loads (is_some c.args.last.now.made) c.args.command.now c.args.file.now c.requires.command) c.load.ensures.loads

-- ---- it is asked

pub reader_request_with-request-requires : goal.reader_request_with-request-requires
reader_request_with-request-requires g c = (is_some c.args.last.now.made, (c.args.file.now, c.requires.command))

pub returns-clause-turns : goal.returns-clause-turns
returns-clause-turns g c = λ s tells at keeps.
    let loaded = rw c.in-Some.is at c.in_ok-bytes.ensures.loaded in
    let named = file_kept g.S.Scheme.verifies c.args.last.now.made s.reader c.args.command.now c.args.file.now keeps c.requires.command in
    c.ask.ensures.turns (shelves g.F.Shelf c.args.shelf.now c.load.new.shelf) s (λ name. ap (λ files. files name) c.load.ensures.files) at keeps (c.reader_request_with-request.ensures s c.args.file.now named (sym (at.same_files c.args.file.now) ∙ loaded tells))

pub returns-clause-reader : goal.returns-clause-reader
returns-clause-reader g c = on_ok_weaker c.ask.result (λ kept s tells at keeps.
    let loaded = rw c.in-Some.is at c.in_ok-bytes.ensures.loaded in
    let named = file_kept g.S.Scheme.verifies c.args.last.now.made s.reader c.args.command.now c.args.file.now keeps c.requires.command in
    kept s at.journal keeps (c.reader_request_with-request.ensures s c.args.file.now named (sym (at.same_files c.args.file.now) ∙ loaded tells))) c.ask.ensures.reader

pub returns-clause-loads : goal.returns-clause-loads
returns-clause-loads g c = rw (reader_loads (is_some c.args.last.now.made) c.args.command.now c.args.file.now c.requires.command) c.load.ensures.loads
