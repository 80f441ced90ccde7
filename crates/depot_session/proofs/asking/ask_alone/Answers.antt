use Rattle.std.proofs.Common.{refl, arith}
use Rattle.depot_outside.specs.Told.{shelves, sinks}
use Rattle.depot_session.proofs.AskedShelves.{not_stored, unstored}
use Rattle.depot_session.proofs.ToldFaults.{names_memory, never_rose}
use Rattle.depot_session.proofs.on_disks.Uncalled.{keeps_uncalled, uncalled_without_memory}
use Rattle.depot_session.proofs.asking.ask_alone.Goals as goal

pub returns-in_err-request-clause-keeps : goal.returns-in_err-request-clause-keeps
returns-in_err-request-clause-keeps g c = keeps_uncalled g.R.NodeState c.args.node.now c.requires.running (g.met.R.Replica.only_now) (g.met.R.Replica.after_none) (g.met.R.Replica.lawful c.args.node.now) _ _ (names_memory _ _ (omega arith) _ c.from_residual.ensures.1 (never_rose _ _))

pub returns-in_err-request-clause-turns : goal.returns-in_err-request-clause-turns
returns-in_err-request-clause-turns g c = λ s told at.
    uncalled_without_memory g.R.NodeState c.args.node.now c.requires.running s c.args.command.now (shelves g.F.Shelf c.args.shelf.now c.args.shelf.now) (sinks g.K.Sink c.args.out.now c.args.out.now) at (λ name. refl) c.from_residual.result c.from_residual.ensures.1 refl

pub returns-in_err-request-clause-stores : goal.returns-in_err-request-clause-stores
returns-in_err-request-clause-stores g c = λ s told at. not_stored _ _ _ c.from_residual.result c.from_residual.ensures.1 refl

pub returns-in_err-request-clause-unstored : goal.returns-in_err-request-clause-unstored
returns-in_err-request-clause-unstored g c = λ s told at. unstored _ _ _ refl

pub returns-clause-turns : goal.returns-clause-turns
returns-clause-turns g c = λ s told at. c.ask.ensures.turns s told at (c.in_ok-request.ensures.asks s)

pub returns-clause-stores : goal.returns-clause-stores
returns-clause-stores g c = λ s told at. c.ask.ensures.stores s told at (c.in_ok-request.ensures.asks s)

pub returns-clause-unstored : goal.returns-clause-unstored
returns-clause-unstored g c = λ s told at. c.ask.ensures.unstored s told at (c.in_ok-request.ensures.asks s)
