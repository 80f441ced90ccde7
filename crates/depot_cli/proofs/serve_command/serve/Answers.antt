use Rattle.std.proofs.Common.{◌≡◌, ℕ, List, [], inl, inr, refl}
use Rattle.depot_outside.specs.Told.{disks, loads, shelves, sinks}
use Rattle.depot_session.specs.Sessions.{shelf_line}
use Rattle.depot_session.proofs.ToldFaults.{never_rose}
use Rattle.depot_source.specs.Inputs.{inputs}
use Rattle.depot_cli.specs.declared.status.Status.TheVariants.{Shelf}
use Rattle.depot_cli.specs.Runs.{LoadsAtMost}
use Rattle.depot_cli.specs.Servers.{RosterInputs}
use Rattle.depot_cli.proofs.Endings.{finished, finished_by}
use Rattle.depot_cli.proofs.ServerRuns.{no_roster_told, roster_served}
use Rattle.depot_cli.proofs.serve_command.serve.Goals as goal

pub returns-in-Ok-None-clause-results : goal.returns-in-Ok-None-clause-results
returns-in-Ok-None-clause-results g c =
    let shelf = shelves g.F.Shelf c.args.shelf.now c.load.new.shelf in
    let loaded = loads g.F.Shelf c.args.shelf.now c.load.new.shelf in
    let roster = c.args.words.now.roster in
    let line = shelf_line roster in
    let lacks = rw c.text.ensures at (rw c.in-Ok-None.field-0-is at c.in-Ok-None.ensures.loaded) in
    let named = rw c.text.ensures at c.load.ensures.loads in
    inl (
      (refl {a = c.args.disk.now}, ((c.load.ensures.files, c.load.ensures.stores), refl {a = c.args.input.now})),
      finished_by (RosterInputs shelf loaded roster) (λ (text : List ℕ). LoadsAtMost loaded roster × (text ≡ [])) (sinks g.S.Sink c.args.out.now c.finish.new.out) c.no_file.result (record { status = Shelf; text = line }) c.finish.result (rw c.text-in-Ok-None.ensures at c.no_file.ensures)
          (inl (named, (refl {a = Shelf}, (lacks, refl {a = line})))) (inr named, refl) c.finish.ensures.finishes,
    )

pub returns-in-Ok-clause-results : goal.returns-in-Ok-clause-results
returns-in-Ok-clause-results g c =
    let mid = c.load.new.shelf in
    let there = rw c.text.ensures at (rw c.in-Ok-Some.field-0-is at c.in-Ok-Some.ensures.loaded) in
    let named = rw c.text.ensures at c.load.ensures.loads in
    let found = (rw c.as_slice.ensures at c.in-Ok.ensures).found c.in-Ok.roster refl in
    roster_served c.in-Ok.roster c.args.words.now (disks g.D.Disk c.args.disk.now c.serve_of.new.disk) (shelves g.F.Shelf c.args.shelf.now mid) (loads g.F.Shelf c.args.shelf.now mid) (inputs g.I.Source c.args.input.now c.serve_of.new.input) (sinks g.S.Sink c.args.out.now c.serve_of.new.out)
    (c.serve_of.new.disk ≡ c.args.disk.now) ((g.F.Shelf.file mid ≡ g.F.Shelf.file c.args.shelf.now) × (g.F.Shelf.stores mid ≡ g.F.Shelf.stores c.args.shelf.now)) (c.serve_of.new.input ≡ c.args.input.now) c.serve_of.result
    (c.load.ensures.files, c.load.ensures.stores) named (λ told. record { bytes = c.in-Ok-Some.text; there = there.0 told; holds = record { fits = found.0; is = found.1 } }) c.serve_of.ensures.runs

pub returns-in-Ok-clause-first_fault : goal.returns-in-Ok-clause-first_fault
returns-in-Ok-clause-first_fault g c = inr (inr (inr (rw c.text.ensures at (rw c.in-Ok-Some.field-0-is at c.in-Ok-Some.ensures.loaded)).1))

pub returns : goal.returns
returns g c =
    let shelf = shelves g.F.Shelf c.args.shelf.now c.load.new.shelf in
    let loaded = loads g.F.Shelf c.args.shelf.now c.load.new.shelf in
    let roster = c.args.words.now.roster in
    let there = rw c.text.ensures at (rw c.in-Ok-Some.field-0-is at c.in-Ok-Some.ensures.loaded) in
    let named = rw c.text.ensures at c.load.ensures.loads in
    let refused = (rw c.as_slice.ensures at c.in-Err-parse.ensures).refused c.in-Err-parse.error refl in
    let told = rw c.text-in-Err-parse.ensures at c.refused_roster.ensures in
    record {
      results = inl (
        (refl {a = c.args.disk.now}, ((c.load.ensures.files, c.load.ensures.stores), refl {a = c.args.input.now})),
        finished (RosterInputs shelf loaded roster) (λ (text : List ℕ). LoadsAtMost loaded roster × (text ≡ [])) (sinks g.S.Sink c.args.out.now c.finish-in-Err-parse.new.out) c.refused_roster.result c.finish-in-Err-parse.result
            (no_roster_told shelf loaded roster c.in-Ok-Some.text c.in-Err-parse.error c.refused_roster.result named there.0 refused told) (inr named, refl) c.finish-in-Err-parse.ensures.finishes,
      );
      first_fault = inr (inr (inr there.1));
      sink_fault = c.finish-in-Err-parse.ensures.sink_fault;
      disk_fault = never_rose _ _;
      source_fault = never_rose _ _;
    }
