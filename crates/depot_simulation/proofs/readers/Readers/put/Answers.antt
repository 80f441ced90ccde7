use Rattle.std.proofs.Common.{◌≡◌, ℕ, List, [], ◌∷◌, ◌++◌, false, Option, Some, is_some, sym, subst, ◌∙◌}
use Rattle.std.specs.BTreeMap.{UpdatesBy}
use Rattle.std.specs.Cmp.Lexicographic.{slice_cmp}
use Rattle.std.specs.Ordering.{nat_cmp}
use Rattle.depot_base.proofs.GeneralLaws.{vec_cmp}
use Rattle.depot_model.specs.readers.Readers.{Reader}
use Rattle.depot_world.specs.Run.{NamedReader}
use Rattle.depot_scenario.specs.Labels.{named_in}
use Rattle.depot_simulation.specs.Readers.{AreReaders, IsMade}
use Rattle.depot_simulation.proofs.ReaderTables.{readers_more, readers_stay}
use Rattle.depot_simulation.proofs.readers.Readers.put.Goals as goal

pub returns-then-contains_key : goal.returns-then-contains_key
returns-then-contains_key g c =
    let reads = g.R.Reading.reads in
    let entries = c.args.self.now.map.entries in
    subst (λ (name : List ℕ). (readers : List NamedReader) (made : Option Reader) → AreReaders reads entries readers → IsMade reads c.args.reader made → AreReaders reads entries (readers ++ record { name = name; reader = made } ∷ [])) c.bytes.ensures.same
    (λ readers made are is. readers_stay reads entries readers (record { name = c.bytes.result.now; reader = made }) are (sym c.contains_key.ensures ∙ c.if-contains_key.true))

pub returns : goal.returns
returns g c = λ readers made are is.
    let reads = g.R.Reading.reads in
    let name = c.args.name.now in
    let old = c.args.self.now.map in
    let new = c.insert.new.self in
    let absent = subst (λ (n : List ℕ). is_some (named_in n old.entries) ≡ false) c.bytes.ensures.same (sym c.contains_key.ensures ∙ c.if-contains_key.false) in
    let updates = subst (λ (n : List ℕ). UpdatesBy vec_cmp (λ x. slice_cmp nat_cmp n x.items) old new (Some c.args.reader)) (c.in_ok-kept.ensures.items ∙ c.bytes-2.ensures.same) c.in_ok-insert.ensures.updates in
    readers_more reads old new readers name c.args.reader made are absent is updates
