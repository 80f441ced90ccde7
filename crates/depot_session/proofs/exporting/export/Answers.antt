use Rattle.std.proofs.Common.{[], ◌∷◌, refl, arith}
use Rattle.depot_outside.specs.Told.{shelves, sinks}
use Rattle.depot_session.proofs.AskedShelves.{not_stored, stored_once}
use Rattle.depot_session.proofs.ExportTurns.{export_turns}
use Rattle.depot_session.proofs.ToldFaults.{names_memory, names_stored, never_rose}
use Rattle.depot_session.proofs.on_disks.Uncalled.{keeps_uncalled, uncalled_without_memory}
use Rattle.depot_session.proofs.exporting.export.Goals as goal

pub returns-in_err-text-clause-keeps : goal.returns-in_err-text-clause-keeps
returns-in_err-text-clause-keeps g c = keeps_uncalled g.R.NodeState c.args.node.now c.requires.running (g.met.R.Replica.only_now) (g.met.R.Replica.after_none) (g.met.R.Replica.lawful c.args.node.now) _ _ (names_memory _ _ (omega arith) _ c.from_residual.ensures.1 (never_rose _ _))

pub returns-in_err-text-clause-turns : goal.returns-in_err-text-clause-turns
returns-in_err-text-clause-turns g c = λ s tells at are.
    uncalled_without_memory g.R.NodeState c.args.node.now c.requires.running s c.args.command.now (shelves g.F.Shelf c.args.shelf.now c.args.shelf.now) (sinks g.K.Sink c.args.out.now c.args.out.now) at (λ _. refl) c.from_residual.result c.from_residual.ensures.1 refl

pub returns-in_err-lines-clause-keeps : goal.returns-in_err-lines-clause-keeps
returns-in_err-lines-clause-keeps g c = keeps_uncalled g.R.NodeState c.args.node.now c.requires.running (g.met.R.Replica.only_now) (g.met.R.Replica.after_none) (g.met.R.Replica.lawful c.args.node.now) _ _ (names_memory _ _ (omega arith) _ c.from_residual-in_err-lines.ensures.1 (never_rose _ _))

pub returns-in_err-lines-clause-turns : goal.returns-in_err-lines-clause-turns
returns-in_err-lines-clause-turns g c = λ s tells at are.
    uncalled_without_memory g.R.NodeState c.args.node.now c.requires.running s c.args.command.now (shelves g.F.Shelf c.args.shelf.now c.args.shelf.now) (sinks g.K.Sink c.args.out.now c.args.out.now) at (λ _. refl) c.from_residual-in_err-lines.result c.from_residual-in_err-lines.ensures.1 refl

pub returns-clause-keeps : goal.returns-clause-keeps
returns-clause-keeps g c =
    keeps_uncalled g.R.NodeState c.args.node.now c.requires.running (g.met.R.Replica.only_now) (g.met.R.Replica.after_none) (g.met.R.Replica.lawful c.args.node.now) _ _ (names_stored _ _ c.store_and_tell.ensures.later _ _ _ _ c.store_and_tell.result c.store_and_tell.ensures.stores c.store_and_tell.ensures.only)

pub returns-clause-turns : goal.returns-clause-turns
returns-clause-turns g c = λ s tells at are.
    let n = c.args.node.now in
    rw c.requires.command (export_turns g.R.NodeState n s c.args.reads.now c.args.file.now c.in_ok-text.text c.in_ok-lines.lines (shelves g.F.Shelf c.args.shelf.now c.store_and_tell.new.shelf) (sinks g.K.Sink c.args.out.now c.store_and_tell.new.out) c.store_and_tell.result c.requires.running at are c.in_ok-text.ensures
    (rw c.record_count.ensures at c.in_ok-lines.ensures) tells (rw c.requires.command at c.store_and_tell.ensures.stores))

pub returns-in_err-text-clause-stores : goal.returns-in_err-text-clause-stores
returns-in_err-text-clause-stores g c = not_stored (g.F.Shelf.stores c.args.shelf.now) (g.F.Shelf.stores c.args.shelf.now) (c.args.file.now ∷ []) c.from_residual.result c.from_residual.ensures.1 refl

pub returns-in_err-lines-clause-stores : goal.returns-in_err-lines-clause-stores
returns-in_err-lines-clause-stores g c = not_stored (g.F.Shelf.stores c.args.shelf.now) (g.F.Shelf.stores c.args.shelf.now) (c.args.file.now ∷ []) c.from_residual-in_err-lines.result c.from_residual-in_err-lines.ensures.1 refl

pub returns-clause-stores : goal.returns-clause-stores
returns-clause-stores g c = stored_once (g.F.Shelf.stores c.args.shelf.now) (g.F.Shelf.stores c.store_and_tell.new.shelf) (c.args.file.now ∷ []) c.store_and_tell.result c.store_and_tell.ensures.once
