use Rattle.std.proofs.Common.{◌≡◌, ◌++◌, ℕ, Bool, List, Some, None, refl, sym, ap, subst, ◌∙◌, arith}
use Rattle.std.specs.Prelude.{is_some, option_copied}
use Rattle.std.proofs.lemmas.List.{append-nil}
use Rattle.std.proofs.lemmas.Result.{on_ok_weaker}
use Rattle.depot_outside.specs.Told.{shelves, sinks}
use Rattle.depot_session.specs.Sessions.{reader_file}
use Rattle.depot_session.proofs.LastReaders.{no_file_kept}
use Rattle.depot_session.proofs.ReaderTurns.{not_without_memory, reader_loads_none}
use Rattle.depot_session.proofs.ToldFaults.{names_memory, never_rose}
use Rattle.depot_session.proofs.on_disks.Uncalled.{keeps_uncalled, uncalled_without_memory}
use Rattle.depot_session.proofs.reader_commands.ask_readers.Goals as goal

-- ---- with its file

pub ask_with_file-requires-clause-command : goal.ask_with_file-requires-clause-command
ask_with_file-requires-clause-command g c = subst (λ (b : Bool). reader_file b c.args.command.now ≡ Some c.in-Some.file.now) c.is_some.ensures (sym c.reader_file.ensures ∙ ap option_copied c.in-Some.is)

-- ---- without one

pub reader_request_alone-requires-clause-alone : goal.reader_request_alone-requires-clause-alone
reader_request_alone-requires-clause-alone g c = (c.is_some.result, sym c.reader_file.ensures ∙ ap option_copied c.in-None.is)

pub returns-in_err-request-in-None-clause-keeps : goal.returns-in_err-request-in-None-clause-keeps
returns-in_err-request-in-None-clause-keeps g c = keeps_uncalled g.R.NodeState c.args.node.now c.requires.running (g.met.R.Replica.only_now) (g.met.R.Replica.after_none) (g.met.R.Replica.lawful c.args.node.now) _ _ (names_memory _ _ (omega arith) _ c.from_residual.ensures.1 (never_rose _ _))

pub returns-in_err-request-in-None-clause-turns : goal.returns-in_err-request-in-None-clause-turns
returns-in_err-request-in-None-clause-turns g c = λ s tells at keeps.
    uncalled_without_memory g.R.NodeState c.args.node.now c.requires.running s c.args.command.now (shelves g.F.Shelf c.args.shelf.now c.args.shelf.now) (sinks g.K.Sink c.args.out.now c.args.out.now) at (λ name. refl) c.from_residual.result c.from_residual.ensures.1 refl

pub returns-in_err-request-in-None-clause-reader : goal.returns-in_err-request-in-None-clause-reader
returns-in_err-request-in-None-clause-reader g c = not_without_memory c.from_residual.result _ c.from_residual.ensures.1

pub returns-in_err-request-in-None-clause-somebodys : goal.returns-in_err-request-in-None-clause-somebodys
returns-in_err-request-in-None-clause-somebodys g c = not_without_memory c.from_residual.result _ c.from_residual.ensures.1

pub returns-in_err-request-in-None-clause-loads : goal.returns-in_err-request-in-None-clause-loads
returns-in_err-request-in-None-clause-loads g c =
    let none = subst (λ (b : Bool). reader_file b c.args.command.now ≡ None) c.is_some.ensures (sym c.reader_file.ensures ∙ ap option_copied c.in-None.is) in
    sym (append-nil (g.F.Shelf.loads c.args.shelf.now)) ∙ ap (λ (names : List (List ℕ)). g.F.Shelf.loads c.args.shelf.now ++ names) (sym (reader_loads_none (is_some c.args.last.now.made) c.args.command.now c.requires.asks none))

pub returns-in_ok-request-in-None-clause-turns : goal.returns-in_ok-request-in-None-clause-turns
returns-in_ok-request-in-None-clause-turns g c = λ s tells at keeps.
    let none = subst (λ (b : Bool). reader_file b c.args.command.now ≡ None) c.is_some.ensures (sym c.reader_file.ensures ∙ ap option_copied c.in-None.is) in
    c.ask.ensures.turns (shelves g.F.Shelf c.args.shelf.now c.args.shelf.now) s (λ name. refl) at keeps (c.in_ok-request-in-None.ensures s (no_file_kept g.S.Scheme.verifies c.args.last.now.made s.reader c.args.command.now keeps none))

pub returns-in_ok-request-in-None-clause-reader : goal.returns-in_ok-request-in-None-clause-reader
returns-in_ok-request-in-None-clause-reader g c = on_ok_weaker c.ask.result (λ kept s tells at keeps.
    let none = subst (λ (b : Bool). reader_file b c.args.command.now ≡ None) c.is_some.ensures (sym c.reader_file.ensures ∙ ap option_copied c.in-None.is) in
    kept s at.journal keeps (c.in_ok-request-in-None.ensures s (no_file_kept g.S.Scheme.verifies c.args.last.now.made s.reader c.args.command.now keeps none))) c.ask.ensures.reader

pub returns-in_ok-request-in-None-clause-loads : goal.returns-in_ok-request-in-None-clause-loads
returns-in_ok-request-in-None-clause-loads g c =
    let none = subst (λ (b : Bool). reader_file b c.args.command.now ≡ None) c.is_some.ensures (sym c.reader_file.ensures ∙ ap option_copied c.in-None.is) in
    sym (append-nil (g.F.Shelf.loads c.args.shelf.now)) ∙ ap (λ (names : List (List ℕ)). g.F.Shelf.loads c.args.shelf.now ++ names) (sym (reader_loads_none (is_some c.args.last.now.made) c.args.command.now c.requires.asks none))
