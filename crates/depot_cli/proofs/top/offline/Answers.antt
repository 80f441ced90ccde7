use Rattle.std.proofs.Common.{Option, subst}
use Rattle.depot_cli.specs.declared.invocation.Invocation.{Invocation}
use Rattle.depot_outside.specs.Told.{disks, shelves, loads, sinks}
use Rattle.depot_session.specs.ScriptTelling.{asked}
use Rattle.depot_cli.specs.Nodes.{Between, Results}
use Rattle.depot_cli.proofs.NodeRuns.{results_complete, results_complete_node}
use Rattle.depot_cli.proofs.top.offline.Goals as goal

pub returns-in-Ok-Some-clause-results : goal.returns-in-Ok-Some-clause-results
returns-in-Ok-Some-clause-results g c =
    let command = rw c.in-Ok-Some.field-0-is at c.in-Ok-Some.ensures in
    subst (λ (k : Option Invocation). Between (Results k) g.F.Shelf c.args.shelf.now c.run.new.shelf g.D.Disk c.args.disk.now c.run.new.disk g.S.Sink c.args.out.now c.run.new.out c.run.result) command c.run.ensures.results

pub returns-in-Ok-Some-clause-complete : goal.returns-in-Ok-Some-clause-complete
returns-in-Ok-Some-clause-complete g c =
    results_complete (disks g.D.Disk c.args.disk.now c.run.new.disk) (shelves g.F.Shelf c.args.shelf.now c.run.new.shelf) (loads g.F.Shelf c.args.shelf.now c.run.new.shelf) (asked g.F.Shelf c.args.shelf.now c.run.new.shelf) (sinks g.S.Sink c.args.out.now c.run.new.out) _ _ _ c.run.result (returns-in-Ok-Some-clause-results g c)

pub returns-in-Ok-Some-clause-complete_node : goal.returns-in-Ok-Some-clause-complete_node
returns-in-Ok-Some-clause-complete_node g c =
    results_complete_node (disks g.D.Disk c.args.disk.now c.run.new.disk) (shelves g.F.Shelf c.args.shelf.now c.run.new.shelf) (loads g.F.Shelf c.args.shelf.now c.run.new.shelf) (asked g.F.Shelf c.args.shelf.now c.run.new.shelf) (sinks g.S.Sink c.args.out.now c.run.new.out) _ _ _ c.run.result (returns-in-Ok-Some-clause-results g c)
