use Rattle.std.proofs.Common.{refl, sym, ap, subst, ◌∙◌, arith, inl}
use Rattle.depot_outside.specs.Told.{Shelves, shelves, sinks}
use Rattle.depot_session.specs.Turns.{StoresAsked, TurnsAsked, UnstoredAsked}
use Rattle.depot_session.specs.declared.ending.ScriptEnding.TheVariants as ending
use Rattle.depot_session.proofs.AskedCommands.{names_file, step_absent}
use Rattle.depot_session.proofs.AskedShelves.{not_stored, unstored}
use Rattle.depot_session.proofs.StoredFiles.{shelves_from}
use Rattle.depot_session.proofs.ToldFaults.{names_fault, names_memory, never_rose}
use Rattle.depot_session.proofs.on_disks.Uncalled.{keeps_uncalled, uncalled_without_file, uncalled_without_memory}
use Rattle.depot_session.proofs.asking.ask_with_file.Goals as goal

pub returns-in_err-bytes-clause-keeps : goal.returns-in_err-bytes-clause-keeps
returns-in_err-bytes-clause-keeps g c = keeps_uncalled g.R.NodeState c.args.node.now c.requires.running (g.met.R.Replica.only_now) (g.met.R.Replica.after_none) (g.met.R.Replica.lawful c.args.node.now) _ _ (names_memory _ _ (omega arith) _ c.from_residual.ensures.1 (never_rose _ _))

pub returns-in_err-bytes-clause-turns : goal.returns-in_err-bytes-clause-turns
returns-in_err-bytes-clause-turns g c = λ s tells at.
    uncalled_without_memory g.R.NodeState c.args.node.now c.requires.running s c.args.command.now (shelves g.F.Shelf c.args.shelf.now c.load.new.shelf) (sinks g.K.Sink c.args.out.now c.args.out.now) at (λ name. ap (λ files. files name) c.load.ensures.files) c.from_residual.result c.from_residual.ensures.1 refl

pub returns-in_err-bytes-clause-stores : goal.returns-in_err-bytes-clause-stores
returns-in_err-bytes-clause-stores g c = λ s tells at. not_stored _ _ _ c.from_residual.result c.from_residual.ensures.1 c.load.ensures.stores

pub returns-in_err-bytes-clause-unstored : goal.returns-in_err-bytes-clause-unstored
returns-in_err-bytes-clause-unstored g c = λ s tells at. unstored _ _ _ c.load.ensures.stores

pub returns-in_default-clause-keeps : goal.returns-in_default-clause-keeps
returns-in_default-clause-keeps g c =
    keeps_uncalled g.R.NodeState c.args.node.now c.requires.running (g.met.R.Replica.only_now) (g.met.R.Replica.after_none) (g.met.R.Replica.lawful c.args.node.now) _ _ (names_fault _ _ c.no_file.ensures.later _ ending.Shelf c.no_file.result tt c.no_file.ensures.told c.no_file.ensures.only)

pub returns-in_default-clause-turns : goal.returns-in_default-clause-turns
returns-in_default-clause-turns g c = λ s tells at.
    uncalled_without_file g.R.NodeState c.args.node.now c.requires.running s c.args.command.now (shelves g.F.Shelf c.args.shelf.now c.load.new.shelf) (sinks g.K.Sink c.args.out.now c.no_file.new.out) at (λ name. ap (λ files. files name) c.load.ensures.files) c.args.file.now c.no_file.result (names_file c.args.command.now c.args.file.now c.requires.command)
    (step_absent _ _ s c.args.command.now c.args.file.now c.requires.command) tells (rw c.in_default.is at c.in_ok-bytes.ensures.loaded) c.no_file.ensures.told

pub returns-in_default-clause-stores : goal.returns-in_default-clause-stores
returns-in_default-clause-stores g c = λ s tells at. inl c.load.ensures.stores

pub returns-in_default-clause-unstored : goal.returns-in_default-clause-unstored
returns-in_default-clause-unstored g c = λ s tells at. unstored _ _ _ c.load.ensures.stores

pub request_with-requires : goal.request_with-requires
request_with-requires g c = (c.args.file.now, c.requires.command)

pub returns-clause-turns : goal.returns-clause-turns
returns-clause-turns g c = λ s tells at.
    let loaded = rw c.in-Some.is at c.in_ok-bytes.ensures.loaded in
    let quiet = rw c.in-Some.is at c.in_ok-bytes.ensures.quiet in
    let calm = rw c.in-Some.is at c.in_ok-bytes.ensures.calm in
    let alike = shelves_from g.F.Shelf c.args.shelf.now c.load.new.shelf c.ask.new.shelf c.load.ensures.tells c.load.ensures.files calm quiet in
    subst (λ (x : Shelves). TurnsAsked g.R.NodeState c.args.node.now c.ask.new.node c.args.command.now c.request_with.result x (sinks g.K.Sink c.args.out.now c.ask.new.out) c.ask.result) alike c.ask.ensures.turns s tells at
    (c.request_with.ensures.asks s c.args.file.now c.requires.command (sym (at.same_files c.args.file.now) ∙ loaded tells))

pub returns-clause-stores : goal.returns-clause-stores
returns-clause-stores g c = λ s tells at.
    let loaded = rw c.in-Some.is at c.in_ok-bytes.ensures.loaded in
    let quiet = rw c.in-Some.is at c.in_ok-bytes.ensures.quiet in
    let calm = rw c.in-Some.is at c.in_ok-bytes.ensures.calm in
    let alike = shelves_from g.F.Shelf c.args.shelf.now c.load.new.shelf c.ask.new.shelf c.load.ensures.tells c.load.ensures.files calm quiet in
    rw (sym c.load.ensures.stores) (subst (λ (x : Shelves). StoresAsked g.R.NodeState c.args.node.now c.args.command.now c.request_with.result x (g.F.Shelf.stores c.load.new.shelf) (g.F.Shelf.stores c.ask.new.shelf) c.ask.result) alike c.ask.ensures.stores s tells at
    (c.request_with.ensures.asks s c.args.file.now c.requires.command (sym (at.same_files c.args.file.now) ∙ loaded tells)))

pub returns-clause-unstored : goal.returns-clause-unstored
returns-clause-unstored g c = λ s tells at.
    let loaded = rw c.in-Some.is at c.in_ok-bytes.ensures.loaded in
    let quiet = rw c.in-Some.is at c.in_ok-bytes.ensures.quiet in
    let calm = rw c.in-Some.is at c.in_ok-bytes.ensures.calm in
    let alike = shelves_from g.F.Shelf c.args.shelf.now c.load.new.shelf c.ask.new.shelf c.load.ensures.tells c.load.ensures.files calm quiet in
    rw (sym c.load.ensures.stores) (subst (λ (x : Shelves). UnstoredAsked g.R.NodeState c.args.node.now c.args.command.now c.request_with.result x (g.F.Shelf.stores c.load.new.shelf) (g.F.Shelf.stores c.ask.new.shelf)) alike c.ask.ensures.unstored s tells at
    (c.request_with.ensures.asks s c.args.file.now c.requires.command (sym (at.same_files c.args.file.now) ∙ loaded tells)))
