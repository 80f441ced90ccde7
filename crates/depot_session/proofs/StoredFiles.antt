-- The outcome of a command that stores a file.
use Rattle.std.proofs.Common.{◌≡◌, ◌⊎◌, ℕ, Bool, true, false, IsTrue, List, ◌++◌, Some, None, Result, Ok, Err, refl, sym, ap, subst, ◌∙◌, inl, inr}
use Rattle.std.specs.Prelude.{if◌then◌else◌}
use Rattle.std.specs.Str.{bytes_eq}
use Rattle.depot_base.specs.declared.record.Record.{Record}
use Rattle.std.proofs.lemmas.Slice.Eq.{bytes_eq-Decides}
use Rattle.depot_model.specs.journals.Stops.{LeavesAll}
use Rattle.depot_model.specs.declared.node_state.NodeState.{Ghosts}
use Rattle.depot_outside.specs.Told.{HasFailedOn, Shelves, Sinks, shelves}
use Rattle.depot_outside.specs.declared.shelf.Shelf as shelf_of
use Rattle.depot_script.specs.declared.command.Command.{Command}
use Rattle.depot_session.specs.declared.ending.ScriptEnding.{ScriptEnding}
use Rattle.depot_script.specs.declared.command.Command.TheVariants as command
use Rattle.depot_session.specs.SessionRuns.{IsHandedOut}
use Rattle.depot_session.specs.Sessions.{Files, Names, Step, StoresAs, stored}
use Rattle.depot_session.specs.ScriptTelling.{LeavesOthers, Stores}
use Rattle.depot_session.specs.Turns.{LeavesBrought, LeftBy, Turns}
use Rattle.depot_session.proofs.Turning.{leaves_journal, shelf_told, untold, without_memory}

-- ---- storing

-- two names are one, or not
one_name : (name other : List ℕ) → (name ≡ other) ⊎ (name ≡ other → ⊥)
one_name name other = by_test (bytes_eq name other) refl where
  by_test : (b : Bool) → bytes_eq name other ≡ b → (name ≡ other) ⊎ (name ≡ other → ⊥)
  by_test true is = inl ((bytes_eq-Decides name other).0 is)
  by_test false is = inr (λ same. let so : bytes_eq name other ≡ true = (bytes_eq-Decides name other).1 same in cc)

-- a command names the file that it stores
stored_is_named : (c : Command) (name : List ℕ) → StoresAs c name → Names c name
stored_is_named (command.Hello file) name is = is
stored_is_named (command.Bundle hello file) name is = inr is
stored_is_named (command.Export file) name is = is
stored_is_named (command.Checkpoint file) name is = is
stored_is_named other name is = absurd is

module _ {N : Type 0} (g : Ghosts N) (old new : N) (c : Command) (step : Step) (shelf : Shelves) (sink : Sinks) (more : List Record) (brings : step.session.correct.journal ≡ g.records old ++ more)
    (leaves : LeavesBrought g old new more) (name bytes : List ℕ) (own : (other : List ℕ) → name ≡ other → StoresAs c other)
    (goes : step.ending ≡ None) (runs : g.stopped new ≡ false) (journal : g.records new ≡ step.session.correct.journal) (stable : IsTrue (g.tells old) → LeavesAll (g.records new) (g.stopped new) (g.may_leave new)) where
  -- no other file has changed, and under the name is what was stored, or the shelf failed on it
  others_same : LeavesOthers shelf name → HasFailedOn shelf name ⊎ (shelf.file_after name ≡ step.session.files name) → (other : List ℕ) → (shelf.file_after other ≡ shelf.file other) ⊎ IsHandedOut (LeftBy g old new) shelf c step other
  others_same others bytes other = by_name (one_name name other) where
    by_name : (name ≡ other) ⊎ (name ≡ other → ⊥) → (shelf.file_after other ≡ shelf.file other) ⊎ IsHandedOut (LeftBy g old new) shelf c step other
    by_name (inl is) = inr (record { stores = own other is; goes_on = goes; bytes = subst (λ (x : List ℕ). HasFailedOn shelf x ⊎ (shelf.file_after x ≡ step.session.files x)) is bytes; journal = leaves_journal g old new step.session.correct.journal runs journal stable })
    by_name (inr not) = inl (others other not)

  -- bytes were stored and then the lines of the command written, or not
  pub stored_told : (r : Result (Unit {0}) ScriptEnding) → ((other : List ℕ) → step.session.files other ≡ stored shelf.file name bytes other) → IsTrue shelf.tells → Stores shelf sink step.text name bytes r → Turns g old new c step shelf sink r
  stored_told (Ok done) files tells st = (goes, record { runs = runs; journal = journal; more = more; brings = brings; leaves = leaves; files = λ other. st.0 tells other ∙ sym (files other); wrote = st.1 })
  stored_told (Err e) files tells (others, inl st) = untold g old new c step shelf sink more brings leaves (others_same others (inr (st.0 tells name ∙ sym (files name)))) runs journal (λ other. st.0 tells other ∙ sym (files other)) stable e st.1
  stored_told (Err e) files tells (others, inr (inl idle)) = without_memory g old new c step shelf sink more brings leaves (λ other. inl (idle.0 other)) (Err e) idle.1.0 idle.1.1
  stored_told (Err e) files tells (others, inr (inr h)) = shelf_told g old new c step shelf sink more brings leaves (others_same others (inl h.failed)) name e (stored_is_named c name (own name refl)) h.failed h.told

-- files are alike where the files before are, and the bytes
pub stored_alike : (files others : Files) (name bytes more : List ℕ) → ((other : List ℕ) → files other ≡ others other) → bytes ≡ more → (other : List ℕ) → stored files name bytes other ≡ stored others name more other
stored_alike files others name bytes more same is other = by_name (bytes_eq other name) where
  by_name : (b : Bool) → (if b then Some bytes else files other) ≡ (if b then Some more else others other)
  by_name true = ap (λ (x : List ℕ). Some x) is
  by_name false = same other

-- a shelf of which a file was loaded is seen as from before the load
pub shelves_from : {F : Type 0} (g : shelf_of.Ghosts F) (old mid new : F) → g.tells mid ≡ g.tells old → g.file mid ≡ g.file old → g.failed mid ≡ g.failed old → g.faults mid ≡ g.faults old → shelves g mid new ≡ shelves g old new
shelves_from g old mid new told same calm quiet = λ i. record {
  tells = told i;
  file = same i;
  file_after = g.file new;
  failed_before = calm i;
  failed_after = g.failed new;
  faults_before = quiet i;
  faults_after = g.faults new;
}
