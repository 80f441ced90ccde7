use Rattle.std.proofs.Common.{◌≡◌, Some, inl, inr, refl, ◌∙◌}
use Rattle.depot_outside.specs.Told.{disks, loads, shelves, sinks}
use Rattle.depot_session.specs.ScriptTelling.{asked}
use Rattle.depot_session.specs.Sessions.{shelf_line}
use Rattle.depot_session.proofs.ToldFaults.{never_rose}
use Rattle.depot_cli.specs.declared.invocation.Invocation.TheVariants.{Node}
use Rattle.depot_cli.specs.declared.status.Status.TheVariants.{Shelf}
use Rattle.depot_cli.specs.Runs.{AnswersCommand, Begins}
use Rattle.depot_cli.proofs.Endings.{finished, finished_by}
use Rattle.depot_cli.proofs.NodeRuns.{IsBehind, file_run, no_roster_answers, same_shelves}
use Rattle.depot_cli.proofs.node_command.node.Goals as goal

pub returns-in-Ok-None-clause-results : goal.returns-in-Ok-None-clause-results
returns-in-Ok-None-clause-results g c =
    let shelf = shelves g.F.Shelf c.args.shelf.now c.load.new.shelf in
    let loaded = loads g.F.Shelf c.args.shelf.now c.load.new.shelf in
    let command = Some (Node c.args.words.now) in
    let line = shelf_line c.args.words.now.roster in
    let lacks = rw c.text.ensures at (rw c.in-Ok-None.field-0-is at c.in-Ok-None.ensures.loaded) in
    let named = rw c.text.ensures at c.load.ensures.loads in
    inl (
      (refl {a = c.args.disk.now}, (c.load.ensures.files, c.load.ensures.stores)),
      finished_by (AnswersCommand shelf loaded command) (Begins shelf loaded command) (sinks g.S.Sink c.args.out.now c.finish.new.out) c.no_file.result (record { status = Shelf; text = line }) c.finish.result (rw c.text-in-Ok-None.ensures at c.no_file.ensures)
          (inl (named, (refl {a = Shelf}, (lacks, refl {a = line})))) (inl (inr named), refl) c.finish.ensures.finishes,
    )

pub returns-in-Ok-clause-results : goal.returns-in-Ok-clause-results
returns-in-Ok-clause-results g c =
    let mid = c.load.new.shelf in
    let last = c.run_file.new.shelf in
    let disk = disks g.D.Disk c.args.disk.now c.run_file.new.disk in
    let behind = shelves g.F.Shelf mid last in
    let shelf = shelves g.F.Shelf c.args.shelf.now last in
    let there = rw c.text.ensures at (rw c.in-Ok-Some.field-0-is at c.in-Ok-Some.ensures.loaded) in
    let named = rw c.text.ensures at c.load.ensures.loads in
    let called : IsBehind (asked g.F.Shelf mid last) (asked g.F.Shelf c.args.shelf.now last) c.args.words.now.roster = record { loads_before = named; loads_after = refl {a = g.F.Shelf.loads last}; stores_before = c.load.ensures.stores; stores_after = refl {a = g.F.Shelf.stores last} } in
    let same = same_shelves g.F.Shelf c.args.shelf.now mid last c.load.ensures.tells c.load.ensures.files (rw c.in-Ok-Some.field-0-is at c.in-Ok-Some.ensures.calm) there.1 in
    let found = (rw c.as_slice.ensures at c.in-Ok.ensures).found c.in-Ok.roster refl in
    file_run c.in-Ok.roster c.args.words.now disk behind shelf (loads g.F.Shelf mid last) (loads g.F.Shelf c.args.shelf.now last) (asked g.F.Shelf mid last) (asked g.F.Shelf c.args.shelf.now last) (sinks g.S.Sink c.args.out.now c.run_file.new.out) (c.run_file.new.disk ≡ c.args.disk.now) ((g.F.Shelf.file last ≡ g.F.Shelf.file mid) × (g.F.Shelf.stores last ≡ g.F.Shelf.stores mid))
    ((g.F.Shelf.file last ≡ g.F.Shelf.file c.args.shelf.now) × (g.F.Shelf.stores last ≡ g.F.Shelf.stores c.args.shelf.now)) c.run_file.result same named (refl {a = g.F.Shelf.loads last}) called (λ u. (u.0 ∙ c.load.ensures.files, u.1 ∙ c.load.ensures.stores)) (λ told. record { bytes = c.in-Ok-Some.text; there = there.0 told; holds = record { fits = found.0; is = found.1 } }) c.run_file.ensures.runs

pub returns : goal.returns
returns g c =
    let shelf = shelves g.F.Shelf c.args.shelf.now c.load.new.shelf in
    let loaded = loads g.F.Shelf c.args.shelf.now c.load.new.shelf in
    let command = Some (Node c.args.words.now) in
    let there = rw c.text.ensures at (rw c.in-Ok-Some.field-0-is at c.in-Ok-Some.ensures.loaded) in
    let named = rw c.text.ensures at c.load.ensures.loads in
    let refused = (rw c.as_slice.ensures at c.in-Err-parse.ensures).refused c.in-Err-parse.error refl in
    let told = rw c.text-in-Err-parse.ensures at c.refused_roster.ensures in
    record {
      results = inl (
        (refl {a = c.args.disk.now}, (c.load.ensures.files, c.load.ensures.stores)),
        finished (AnswersCommand shelf loaded command) (Begins shelf loaded command) (sinks g.S.Sink c.args.out.now c.finish-in-Err-parse.new.out) c.refused_roster.result c.finish-in-Err-parse.result
            (no_roster_answers shelf loaded c.args.words.now c.in-Ok-Some.text c.in-Err-parse.error c.refused_roster.result named there.0 refused told) (inl (inr named), refl) c.finish-in-Err-parse.ensures.finishes,
      );
      first_fault = inr (inr (inr there.1));
      sink_fault = c.finish-in-Err-parse.ensures.sink_fault;
      disk_fault = never_rose _ _;
    }
