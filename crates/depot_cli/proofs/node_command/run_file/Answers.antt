use Rattle.std.proofs.Common.{◌≡◌, ℕ, List, [], inl, refl, ◌∙◌}
use Rattle.depot_outside.specs.Told.{disks, loads, shelves, sinks}
use Rattle.depot_session.specs.ScriptTelling.{asked}
use Rattle.depot_session.specs.Sessions.{shelf_line}
use Rattle.depot_cli.specs.Nodes.{ScriptInputs}
use Rattle.depot_cli.specs.declared.status.Status.TheVariants.{Shelf}
use Rattle.depot_cli.proofs.Endings.{finished_by}
use Rattle.depot_cli.proofs.NodeRuns.{IsBehind, bytes_run, same_shelves}
use Rattle.depot_cli.proofs.node_command.run_file.Goals as goal

pub returns-in-Ok-Some-clause-runs : goal.returns-in-Ok-Some-clause-runs
returns-in-Ok-Some-clause-runs g c =
    let mid = c.load.new.shelf in
    let last = c.run_bytes.new.shelf in
    let disk = disks g.D.Disk c.args.disk.now c.run_bytes.new.disk in
    let behind = shelves g.F.Shelf mid last in
    let shelf = shelves g.F.Shelf c.args.shelf.now last in
    let there = rw c.text.ensures at (rw c.in-Ok-Some.field-0-is at c.in-Ok-Some.ensures.loaded) in
    let named = rw c.text.ensures at c.load.ensures.loads in
    let called : IsBehind (asked g.F.Shelf mid last) (asked g.F.Shelf c.args.shelf.now last) c.args.words.now.script = record { loads_before = named; loads_after = refl {a = g.F.Shelf.loads last}; stores_before = c.load.ensures.stores; stores_after = refl {a = g.F.Shelf.stores last} } in
    let same = same_shelves g.F.Shelf c.args.shelf.now mid last c.load.ensures.tells c.load.ensures.files (rw c.in-Ok-Some.field-0-is at c.in-Ok-Some.ensures.calm) there.1 in
    bytes_run c.args.roster c.args.words.now c.in-Ok-Some.bytes disk behind shelf (loads g.F.Shelf mid last) (loads g.F.Shelf c.args.shelf.now last) (asked g.F.Shelf mid last) (asked g.F.Shelf c.args.shelf.now last) (sinks g.S.Sink c.args.out.now c.run_bytes.new.out) (c.run_bytes.new.disk ≡ c.args.disk.now) ((g.F.Shelf.file last ≡ g.F.Shelf.file mid) × (g.F.Shelf.stores last ≡ g.F.Shelf.stores mid))
    ((g.F.Shelf.file last ≡ g.F.Shelf.file c.args.shelf.now) × (g.F.Shelf.stores last ≡ g.F.Shelf.stores c.args.shelf.now)) c.run_bytes.result same named (refl {a = g.F.Shelf.loads last}) called (λ u. (u.0 ∙ c.load.ensures.files, u.1 ∙ c.load.ensures.stores)) there.0 (rw c.as_slice.ensures at c.run_bytes.ensures.runs)

pub returns-in-Ok-None-clause-runs : goal.returns-in-Ok-None-clause-runs
returns-in-Ok-None-clause-runs g c =
    let shelf = shelves g.F.Shelf c.args.shelf.now c.load.new.shelf in
    let loaded = loads g.F.Shelf c.args.shelf.now c.load.new.shelf in
    let script = c.args.words.now.script in
    let line = shelf_line script in
    let lacks = rw c.text.ensures at (rw c.in-Ok-None.field-0-is at c.in-Ok-None.ensures.loaded) in
    let named = rw c.text.ensures at c.load.ensures.loads in
    inl (
      (refl {a = c.args.disk.now}, (c.load.ensures.files, c.load.ensures.stores)),
      (
        named,
        finished_by (ScriptInputs shelf loaded script) (λ (text : List ℕ). text ≡ []) (sinks g.S.Sink c.args.out.now c.finish.new.out) c.no_file.result (record { status = Shelf; text = line }) c.finish.result (rw c.text-in-Ok-None.ensures at c.no_file.ensures)
            (inl (named, (refl {a = Shelf}, (lacks, refl {a = line})))) refl c.finish.ensures.finishes,
      ),
    )
