use Rattle.std.proofs.Common.{Option, refl, sym, subst, append-nil}
use Rattle.depot_outside.specs.Told.{disks, shelves, loads, sinks}
use Rattle.depot_session.specs.ScriptTelling.{asked}
use Rattle.depot_source.specs.Inputs.{inputs}
use Rattle.depot_cli.specs.Nodes.{NodeCompletes}
use Rattle.depot_cli.specs.Servers.{AllResults, BetweenAll, CompletesOffline, ServeCompletes}
use Rattle.depot_cli.specs.Words.{command_of, served_words}
use Rattle.depot_cli.specs.declared.invocation.Invocation.{Invocation}
use Rattle.depot_cli.specs.declared.invocation.ServerWords.{ServerWords}
use Rattle.depot_cli.proofs.ServerRuns.{serve_completes, served_is_none, without_memory_yet}
use Rattle.depot_cli.proofs.top.depot.Goals as goal

-- ---- `serve`

pub returns-in-Ok-Some-clause-results : goal.returns-in-Ok-Some-clause-results
returns-in-Ok-Some-clause-results g c =
    let words = rw c.in-Ok-Some.field-0-is at c.in-Ok-Some.ensures in
    subst (λ (k : Option ServerWords). BetweenAll (AllResults k (command_of c.args.words.now)) g.F.Shelf c.args.shelf.now c.serve.new.shelf g.D.Disk c.args.disk.now c.serve.new.disk g.I.Source c.args.input.now c.serve.new.input g.S.Sink c.args.out.now c.serve.new.out c.serve.result) words c.serve.ensures.results

pub returns-in-Ok-Some-clause-complete : goal.returns-in-Ok-Some-clause-complete
returns-in-Ok-Some-clause-complete g c =
    let words = rw c.in-Ok-Some.field-0-is at c.in-Ok-Some.ensures in
    λ well. subst (λ (k : Option ServerWords). CompletesOffline k (shelves g.F.Shelf c.args.shelf.now c.serve.new.shelf) (command_of c.args.words.now) c.serve.result) words tt

pub returns-in-Ok-Some-clause-complete_node : goal.returns-in-Ok-Some-clause-complete_node
returns-in-Ok-Some-clause-complete_node g c =
    let words = rw c.in-Ok-Some.field-0-is at c.in-Ok-Some.ensures in
    subst (λ (k : Option Invocation). NodeCompletes (disks g.D.Disk c.args.disk.now c.serve.new.disk) (shelves g.F.Shelf c.args.shelf.now c.serve.new.shelf) (sinks g.S.Sink c.args.out.now c.serve.new.out) k c.serve.result) (sym (served_is_none c.args.words.now c.in-Ok-Some.served (sym words))) (λ well disk_well. tt)

pub returns-in-Ok-Some-clause-complete_serve : goal.returns-in-Ok-Some-clause-complete_serve
returns-in-Ok-Some-clause-complete_serve g c =
    let words = rw c.in-Ok-Some.field-0-is at c.in-Ok-Some.ensures in
    let disk = disks g.D.Disk c.args.disk.now c.serve.new.disk in
    let shelf = shelves g.F.Shelf c.args.shelf.now c.serve.new.shelf in
    let input = inputs g.I.Source c.args.input.now c.serve.new.input in
    let sink = sinks g.S.Sink c.args.out.now c.serve.new.out in
    subst (λ (k : Option ServerWords). ServeCompletes disk shelf input sink k c.serve.result) words (serve_completes c.in-Ok-Some.served disk shelf (loads g.F.Shelf c.args.shelf.now c.serve.new.shelf) input sink _ _ _ c.serve.result c.serve.ensures.results)

-- ---- any other words

pub returns-in-Ok-None-clause-results : goal.returns-in-Ok-None-clause-results
returns-in-Ok-None-clause-results g c =
    let words = rw c.in-Ok-None.field-0-is at c.in-Ok-None.ensures in
    subst (λ (k : Option ServerWords). BetweenAll (AllResults k (command_of c.args.words.now)) g.F.Shelf c.args.shelf.now c.offline.new.shelf g.D.Disk c.args.disk.now c.offline.new.disk g.I.Source c.args.input.now c.args.input.now g.S.Sink c.args.out.now c.offline.new.out c.offline.result) words (refl {a = c.args.input.now}, c.offline.ensures.results)

pub returns-in-Ok-None-clause-complete : goal.returns-in-Ok-None-clause-complete
returns-in-Ok-None-clause-complete g c =
    let words = rw c.in-Ok-None.field-0-is at c.in-Ok-None.ensures in
    λ well. subst (λ (k : Option ServerWords). CompletesOffline k (shelves g.F.Shelf c.args.shelf.now c.offline.new.shelf) (command_of c.args.words.now) c.offline.result) words (c.offline.ensures.complete well)

pub returns-in-Ok-None-clause-complete_serve : goal.returns-in-Ok-None-clause-complete_serve
returns-in-Ok-None-clause-complete_serve g c =
    let words = rw c.in-Ok-None.field-0-is at c.in-Ok-None.ensures in
    subst (λ (k : Option ServerWords). ServeCompletes (disks g.D.Disk c.args.disk.now c.offline.new.disk) (shelves g.F.Shelf c.args.shelf.now c.offline.new.shelf) (inputs g.I.Source c.args.input.now c.args.input.now) (sinks g.S.Sink c.args.out.now c.offline.new.out) k c.offline.result) words (λ well disk_well source_well. tt)

-- ---- no memory

pub returns-in-Err-clause-results : goal.returns-in-Err-clause-results
returns-in-Err-clause-results g c =
    let shelf = c.args.shelf.now in
    let out = c.args.out.now in
    without_memory_yet (served_words c.args.words.now) (command_of c.args.words.now) (disks g.D.Disk c.args.disk.now c.args.disk.now) (shelves g.F.Shelf shelf shelf) (loads g.F.Shelf shelf shelf) (asked g.F.Shelf shelf shelf) (inputs g.I.Source c.args.input.now c.args.input.now) (sinks g.S.Sink out out) _ _ _
    (refl {a = c.args.disk.now}) (refl {a = g.F.Shelf.file shelf}, refl {a = g.F.Shelf.stores shelf}) (refl {a = c.args.input.now}) (sym (append-nil (g.F.Shelf.loads shelf))) (λ told. sym (append-nil (g.S.Sink.written out)))
