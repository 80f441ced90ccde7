-- What is answered when a reader is to be made, and what a reader answers.
use Rattle.std.specs.Prelude.{◌≡◌, ℕ, List, Result, Ok, Err, Some, slice_get}
use Rattle.depot_base.specs.declared.record.Record.{Record}
use Rattle.depot_base.specs.declared.update.Update.{Update}
use Rattle.depot_model.specs.declared.taken.Taken.{Taken}
use Rattle.depot_model.specs.checks.Checks.{Setting}
use Rattle.depot_model.specs.journals.Journal.{accepted}
use Rattle.depot_model.specs.lists.Lists.{IsIn}
use Rattle.depot_model.specs.readers.Opening.{ill_at, of_roster, with_unknown}
use Rattle.depot_model.specs.readers.Readers.{Reader, ReaderOutcome, kept, unopened, unsigned, reading, trim_of, stands_below, too_full, told, reader_takes}
use Rattle.depot_model.specs.texts.Roster.{Verifies}
use Rattle.depot_model.specs.checks.Taking.{Form}
use Rattle.depot_model.specs.texts.Texts.{hash_of_roster}
use Rattle.depot_trim.specs.declared.trim_error.TrimError.{TrimError}
use Rattle.depot_trim.specs.declared.trim_error.TrimError.TheVariants as refused
use Rattle.depot_trim.specs.declared.trim_error.TrimTake.{TrimTake}
use Rattle.depot_trim.specs.declared.trim_error.TrimTake.TheVariants as failed
use Rattle.depot_trim.specs.declared.trimmed.Trimmed.{Trimmed}
use Rattle.depot_trim.specs.ReaderView.{IsReaderOf}

-- What a node answers when a reader is to be made of it; `Memory` may replace each answer.
abbrev pub Trims : {S : Type 0} → Verifies → Setting → List Record → List ℕ → Result (Trimmed S) TrimError → Type 0
Trims verifies here J text (Ok t) = (R : Reader) × ((trim_of here J text ≡ reading R) × IsReaderOf verifies R t)
Trims verifies here J text (Err refused.Memory) = Unit {0}
Trims verifies here J text (Err (refused.IllFormed at)) = trim_of here J text ≡ unopened (ill_at at)
Trims verifies here J text (Err (refused.OtherRoster given mine)) = (trim_of here J text ≡ unopened (of_roster given)) × (mine ≡ hash_of_roster here.listed)
Trims verifies here J text (Err (refused.Unknown id)) = trim_of here J text ≡ unopened (with_unknown id)
Trims verifies here J text (Err (refused.Unsigned node)) = trim_of here J text ≡ unsigned node

-- What a reader answers where this is the outcome of what it is given, and the reader afterwards; `Memory` may replace
-- each answer and leaves the reader unchanged.
abbrev pub Becomes : {S : Type 0} → Verifies → Reader → ReaderOutcome → Result Taken TrimTake → Trimmed S → Type 0
Becomes verifies R outcome (Ok taken) t = (then : Reader) × ((outcome ≡ told (Ok taken) then) × IsReaderOf verifies then t)
Becomes verifies R outcome (Err failed.Memory) t = IsReaderOf verifies R t
Becomes verifies R outcome (Err (failed.BelowCheckpoint id)) t = (outcome ≡ stands_below id) × IsReaderOf verifies R t
Becomes verifies R outcome (Err (failed.Full full)) t = (outcome ≡ too_full full) × IsReaderOf verifies R t
Becomes verifies R outcome (Err (failed.Refused c)) t = (then : Reader) × ((outcome ≡ told (Err c) then) × IsReaderOf verifies then t)

-- the same of a text of a form
abbrev pub ReaderTakes : {S : Type 0} → Verifies → Reader → Form → List ℕ → Result Taken TrimTake → Trimmed S → Type 0
ReaderTakes verifies R form text result t = Becomes verifies R (reader_takes R form text) result t

-- the item is that of a kept update
abbrev pub IsKeptItem : Reader → ℕ → Type 0
IsKeptItem R item = (u : Update) × ((slice_get (accepted R.journal) item ≡ Some u) × IsIn u (kept R))
