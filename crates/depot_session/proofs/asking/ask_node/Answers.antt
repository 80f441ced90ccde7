use Rattle.std.proofs.Common.{◌++◌, List, ℕ, refl, sym, ap, ◌∙◌, arith}
use Rattle.std.specs.Prelude.{option_copied}
use Rattle.std.proofs.lemmas.List.{append-nil}
use Rattle.depot_outside.specs.Told.{shelves, sinks}
use Rattle.depot_session.proofs.AskedCommands.{loads_file, loads_none}
use Rattle.depot_session.proofs.AskedShelves.{not_stored, unstored}
use Rattle.depot_session.proofs.KeptSteps.{on_ok}
use Rattle.depot_session.proofs.ToldFaults.{names_memory, never_rose}
use Rattle.depot_session.proofs.on_disks.Uncalled.{keeps_uncalled, uncalled_without_memory}
use Rattle.depot_session.proofs.asking.ask_node.Goals as goal

pub returns-in_err-keep_read-clause-keeps : goal.returns-in_err-keep_read-clause-keeps
returns-in_err-keep_read-clause-keeps g c = keeps_uncalled g.R.NodeState c.args.node.now c.requires.running (g.met.R.Replica.only_now) (g.met.R.Replica.after_none) (g.met.R.Replica.lawful c.args.node.now) _ _ (names_memory _ _ (omega arith) _ c.from_residual.ensures.1 (never_rose _ _))

pub returns-in_err-keep_read-clause-turns : goal.returns-in_err-keep_read-clause-turns
returns-in_err-keep_read-clause-turns g c = λ s told at.
    uncalled_without_memory g.R.NodeState c.args.node.now c.requires.running s c.args.command.now (shelves g.F.Shelf c.args.shelf.now c.args.shelf.now) (sinks g.K.Sink c.args.out.now c.args.out.now) at (λ name. refl) c.from_residual.result c.from_residual.ensures.1 refl

pub returns-in_err-keep_read-clause-loads : goal.returns-in_err-keep_read-clause-loads
returns-in_err-keep_read-clause-loads g c = λ made. sym (append-nil (g.F.Shelf.loads c.args.shelf.now)) ∙ ap (λ (names : List (List ℕ)). g.F.Shelf.loads c.args.shelf.now ++ names) (sym (c.keep_read.ensures.loads (rw c.in_err-keep_read.was refl) made))

pub returns-in_err-keep_read-clause-stores : goal.returns-in_err-keep_read-clause-stores
returns-in_err-keep_read-clause-stores g c = λ s told at. not_stored _ _ _ c.from_residual.result c.from_residual.ensures.1 refl

pub returns-in_err-keep_read-clause-unstored : goal.returns-in_err-keep_read-clause-unstored
returns-in_err-keep_read-clause-unstored g c = λ s told at. unstored _ _ _ refl

pub ask_alone-requires-clause-alone : goal.ask_alone-requires-clause-alone
ask_alone-requires-clause-alone g c = sym c.file_asked.ensures ∙ ap option_copied c.in-None.is

pub ask_with_file-requires-clause-command : goal.ask_with_file-requires-clause-command
ask_with_file-requires-clause-command g c = sym c.file_asked.ensures ∙ ap option_copied c.in-Some.is

pub returns-in-None-clause-reads : goal.returns-in-None-clause-reads
returns-in-None-clause-reads g c = on_ok c.ask_alone.result _ c.in_ok-keep_read.ensures.reads

pub returns-in-None-clause-loads : goal.returns-in-None-clause-loads
returns-in-None-clause-loads g c = λ made.
    c.ask_alone.ensures.loads ∙ sym (append-nil (g.F.Shelf.loads c.args.shelf.now))
    ∙ ap (λ (names : List (List ℕ)). g.F.Shelf.loads c.args.shelf.now ++ names) (sym (loads_none made c.args.command.now c.requires.asks (sym c.file_asked.ensures ∙ ap option_copied c.in-None.is)))

pub returns-in-Some-clause-reads : goal.returns-in-Some-clause-reads
returns-in-Some-clause-reads g c = on_ok c.ask_with_file.result _ c.in_ok-keep_read.ensures.reads

pub returns-in-Some-clause-loads : goal.returns-in-Some-clause-loads
returns-in-Some-clause-loads g c = λ made.
    c.ask_with_file.ensures.loads ∙ ap (λ (names : List (List ℕ)). g.F.Shelf.loads c.args.shelf.now ++ names) (sym (loads_file made c.args.command.now c.in-Some.file.now (sym c.file_asked.ensures ∙ ap option_copied c.in-Some.is)))
