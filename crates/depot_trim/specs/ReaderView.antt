-- What is kept of a reader.
use Rattle.std.specs.Prelude.{◌≡◌, ℕ, List, ◌++◌, map, false}
use Rattle.depot_base.specs.declared.record.Record.{Record}
use Rattle.depot_base.specs.declared.update.Update.{Update}
use Rattle.depot_model.specs.journals.Journal.{value_with}
use Rattle.depot_model.specs.journals.Lawful.{IsLawful, is_empty}
use Rattle.depot_model.specs.readers.Pruning.{pruned}
use Rattle.depot_model.specs.readers.Readers.{Reader, kept}
use Rattle.depot_model.specs.texts.Roster.{Verifies}
use Rattle.depot_model.specs.texts.Texts.{id_of_update}
use Rattle.depot_model.specs.readers.Trimming.{trimmed}
use Rattle.depot_accept.specs.StateView.{IsStateOf, setting}
use Rattle.depot_readings.specs.Counts.{AreCountsOf}
use Rattle.depot_readings.specs.Named.{AreNamed}
use Rattle.depot_kept.specs.Values as values
use Rattle.depot_trim.specs.declared.marks.UpdateMark.{UpdateMark}
use Rattle.depot_trim.specs.declared.trimmed.Trimmed.{Trimmed}

-- an update that was trimmed, by what names it
abbrev pub mark_of : Update → UpdateMark
mark_of u = record { writer = u.writer; seq = u.seq; prev = u.prev; id = id_of_update u }

-- A prefix of the reader's journal was trimmed below these ids; the rest came later.
pub record WasTrimmed (R : Reader) : Type 0 where
  pub front : List Record
  pub more : List Record
  pub ids : List (List ℕ)
  pub journal : R.journal ≡ front ++ more
  pub trimmed : R.trimmed ≡ trimmed front ids

-- The state is that of this reader. Its journal is lawful and isn't empty.
pub record IsReaderOf {S : Type 0} (verifies : Verifies) (R : Reader) (t : Trimmed S) : Type 0 where
  pub lawful : IsLawful R.here R.journal
  pub some : is_empty R.journal ≡ false
  pub below : WasTrimmed R
  pub state : IsStateOf (pruned R.trimmed R.journal) t.state
  pub stands : setting verifies t.state ≡ R.here
  pub values : (hash : List ℕ) → values.held_in t.values hash ≡ value_with hash R.held
  pub named : AreNamed (kept R) t.named
  pub counts : AreCountsOf R.here.me R.journal t.counts
  pub marks : t.marks.list.items ≡ map mark_of R.trimmed
