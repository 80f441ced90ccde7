use Rattle.std.proofs.Common.{refl, sym, ap, ◌∙◌, rules}
use Rattle.std.specs.Prelude.{is_some}
use Rattle.std.proofs.lemmas.List.{append-nil}
use Rattle.depot_session.proofs.AskedCommands.{asks_unless}
use Rattle.depot_session.proofs.AskedShelves.{goes_on_anyhow}
use Rattle.depot_session.proofs.ExportTurns.{export_goes_on}
use Rattle.depot_session.proofs.KeptSteps.{few_kept, fit_kept, keeps_unread, kept_are, on_ok}
use Rattle.depot_session.proofs.LastReaders.{keeps_last, keeps_unasked}
use Rattle.depot_session.proofs.ReaderTurns.{reader_no_get, reader_stores_none}
use Rattle.depot_session.proofs.StoredNames.{nothing_stored, trace_stored}
use Rattle.depot_session.specs.KeptReads.{is_export}
use Rattle.depot_session.proofs.carrying.carry_out.Goals as goal

-- ---- the node is asked

pub ask_node-requires-clause-asks : goal.ask_node-requires-clause-asks
ask_node-requires-clause-asks g c = asks_unless c.args.command.now c.in_default.not-Export c.in_default.not-Trim c.in_default.not-Tgive c.in_default.not-Tget

pub returns-in_default-clause-turns : goal.returns-in_default-clause-turns
returns-in_default-clause-turns g c = λ s told at of_run keeps. c.ask_node.ensures.turns s told at

pub returns-in_default-clause-reader : goal.returns-in_default-clause-reader
returns-in_default-clause-reader g c = on_ok c.ask_node.result _ (λ s told at keeps. keeps_unasked g.S.Scheme.verifies c.args.last.now.made (g.R.NodeState.stands c.args.node.now) (g.R.NodeState.signature_of c.args.node.now) s c.args.command.now c.in_default.not-Trim c.in_default.not-Tgive c.in_default.not-Tget keeps)

pub returns-in_default-clause-somebodys : goal.returns-in_default-clause-somebodys
returns-in_default-clause-somebodys g c = on_ok c.ask_node.result _ c.requires.reader

pub returns-in_default-clause-loads : goal.returns-in_default-clause-loads
returns-in_default-clause-loads g c = c.ask_node.ensures.loads (is_some c.args.last.now.made)

-- ---- the others

pub kept-requires : goal.kept-requires
kept-requires g c = c.requires.kept (ap is_export c.in-Export.is)

pub export-requires-clause-few : goal.export-requires-clause-few
export-requires-clause-few g c = few_kept c.args.reads.now c.kept.result.now c.requires.few c.kept.ensures

pub export-requires-clause-fit : goal.export-requires-clause-fit
export-requires-clause-fit g c = fit_kept c.args.reads.now c.kept.result.now c.requires.few c.kept.ensures

pub returns-in-Export-clause-turns : goal.returns-in-Export-clause-turns
returns-in-Export-clause-turns g c = λ s told at of_run keeps. c.export.ensures.turns s told at (kept_are s c.args.reads.now c.kept.result.now of_run c.kept.ensures)

pub returns-in-Export-clause-reads : goal.returns-in-Export-clause-reads
returns-in-Export-clause-reads g c = on_ok c.export.result _ (keeps_unread _ _ _ _ _ _ c.in-Export.is tt)

pub returns-in-Export-clause-reader : goal.returns-in-Export-clause-reader
returns-in-Export-clause-reader g c = on_ok c.export.result _ (λ s told at keeps. keeps_last g.S.Scheme.verifies c.args.last.now.made (g.R.NodeState.stands c.args.node.now) (g.R.NodeState.signature_of c.args.node.now) s c.args.command.now _ c.in-Export.is tt keeps)

pub returns-in-Export-clause-somebodys : goal.returns-in-Export-clause-somebodys
returns-in-Export-clause-somebodys g c = on_ok c.export.result _ c.requires.reader

pub returns-in-Export-clause-loads : goal.returns-in-Export-clause-loads
returns-in-Export-clause-loads g c = rw c.in-Export.is (c.export.ensures.loads ∙ sym (append-nil (g.F.Shelf.loads c.args.shelf.now)))

pub returns-in-Export-clause-stores : goal.returns-in-Export-clause-stores
returns-in-Export-clause-stores g c = λ s told at. trace_stored (g.F.Shelf.stores c.args.shelf.now) (g.F.Shelf.stores c.export.new.shelf) (g.R.NodeState.stands c.args.node.now) (g.R.NodeState.signature_of c.args.node.now) s c.args.command.now c.export.result _ c.in-Export.is c.export.ensures.stores

pub returns-in-Export-clause-unstored : goal.returns-in-Export-clause-unstored
returns-in-Export-clause-unstored g c = λ s told at. rw c.in-Export.is (goes_on_anyhow _ _ (export_goes_on (g.R.NodeState.stands c.args.node.now) (g.R.NodeState.signature_of c.args.node.now) s _))

-- ---- readers are asked

pub returns-in-Trim-clause-reads : goal.returns-in-Trim-clause-reads
returns-in-Trim-clause-reads g c = on_ok c.ask_readers.result _ (keeps_unread _ _ _ _ _ _ refl (reader_no_get c.args.command.now (search rules)))

pub returns-in-Trim-clause-stores : goal.returns-in-Trim-clause-stores
returns-in-Trim-clause-stores g c = λ s told at.
    nothing_stored (g.F.Shelf.stores c.args.shelf.now) (g.F.Shelf.stores c.ask_readers.new.shelf) (g.R.NodeState.stands c.args.node.now) (g.R.NodeState.signature_of c.args.node.now) s c.args.command.now c.ask_readers.result c.args.command.now refl (reader_stores_none c.args.command.now (search rules)) c.ask_readers.ensures.stores
