-- What a call on a store leaves of its journal.
use Rattle.std.specs.Prelude.{◌≡◌, ◌≢◌, ℕ, List, [], false, Result, IsErrAnd, IsErrOf}
use Rattle.depot_base.specs.declared.record.Record.{Record}
use Rattle.depot_base.specs.declared.write.Change.{Change}
use Rattle.depot_model.specs.journals.JournalCalls.{IsJournalCall}
use Rattle.depot_model.specs.journals.Lawful.{IsLawful, is_empty}
use Rattle.depot_model.specs.checks.Putting.{put_records}
use Rattle.depot_model.specs.texts.Roster.{Verifies}
use Rattle.depot_model.specs.checks.Taking.{Form, growth_of_text}
use Rattle.depot_model.specs.checks.Vouching.{new_vouchers, records_of}
use Rattle.depot_model.specs.declared.bundle.VoucherError.{VoucherError}
use Rattle.depot_model.specs.declared.bundle.VoucherError.TheVariants as unvouched
use Rattle.depot_model.specs.declared.put_answers.PutDone.{PutDone}
use Rattle.depot_model.specs.declared.put_answers.PutError.{PutError}
use Rattle.depot_model.specs.declared.put_answers.PutError.TheVariants as unput
use Rattle.depot_model.specs.declared.taken.TakeError.{TakeError}
use Rattle.depot_model.specs.declared.taken.TakeError.TheVariants as untaken
use Rattle.depot_model.specs.declared.taken.Taken.{Taken}
use Rattle.depot_outside.specs.declared.disk.Disk.{Ghosts}
use Rattle.depot_node.specs.Holdings.{Holding, journal_on, node_setting}
use Rattle.depot_node.specs.declared.commit.CommitError.{CommitError}
use Rattle.depot_node.specs.declared.commit.CommitError.TheVariants as refused
use Rattle.depot_node.specs.declared.commit.WriteError.{WriteError}
use Rattle.depot_node.specs.declared.commit.WriteError.TheVariants as unwritten

-- ---- calls of the store, which are made while it runs

-- the call was asked to append these records, and answered so; on `Memory` none is appended
abbrev pub IsWriteCall : {D : Type 0} → Ghosts D → Holding D → Holding D → List Record → Result (Unit {0}) WriteError → Type 0
IsWriteCall g old new appends result = IsJournalCall (journal_on g) old new appends ⊥ (IsErrOf result unwritten.Disk) (IsErrOf result unwritten.Memory)

-- the same where there may be no room; after each error but Disk none is appended
abbrev pub IsCommitCall : {D : Type 0} → Ghosts D → Holding D → Holding D → List Record → Result (Unit {0}) CommitError → Type 0
IsCommitCall g old new appends result = IsJournalCall (journal_on g) old new appends ⊥ (IsErrOf result refused.Disk) (IsErrAnd result (λ e. e ≢ refused.Disk))

-- what was decided is carried out, which is to append these records; on `Memory` none is appended
abbrev pub IsCarryCall : {D : Type 0} → Ghosts D → Holding D → Holding D → List Record → Result Taken TakeError → Type 0
IsCarryCall g old new appends result = IsJournalCall (journal_on g) old new appends ⊥ (IsErrOf result untaken.Disk) (IsErrOf result untaken.Memory)

-- ---- calls of a node on its store, which may be stopped

-- the call was given a text of this form, and answered so; on `Memory` nothing is appended
abbrev pub IsStoreTake : {D : Type 0} → Ghosts D → Verifies → Form → Holding D → Holding D → List ℕ → Result Taken TakeError → Type 0
IsStoreTake g verifies form old new text result =
    IsJournalCall (journal_on g) old new (growth_of_text (node_setting verifies old) old.records form text)
    (IsErrOf result untaken.Stopped) (IsErrOf result untaken.Disk) (IsErrOf result untaken.Memory)

-- the call was asked to put these changes, and answered so; after each error but Disk nothing is appended
abbrev pub IsStorePut : {D : Type 0} → Ghosts D → Verifies → Holding D → Holding D → List Change → Result PutDone PutError → Type 0
IsStorePut g verifies old new changes result =
    IsJournalCall (journal_on g) old new (put_records (node_setting verifies old) old.records changes)
    (IsErrOf result unput.Stopped) (IsErrOf result unput.Disk) (IsErrAnd result (λ e. e ≢ unput.Disk))

-- the call was asked to vouch for these ids, and answered so; after each error but Disk nothing is appended
abbrev pub IsStoreVouch : {D : Type 0} → Ghosts D → Verifies → Holding D → Holding D → List (List ℕ) → Result (Unit {0}) VoucherError → Type 0
IsStoreVouch g verifies old new ids result =
    IsJournalCall (journal_on g) old new (records_of (new_vouchers (node_setting verifies old).me old.records ids))
    (IsErrOf result unvouched.Stopped) (IsErrOf result unvouched.Disk) (IsErrAnd result (λ e. e ≢ unvouched.Disk))

-- ---- the store of a node

-- All its records were read. They are a lawful journal under the node's setting, and there is one.
pub record IsKept {D : Type 0} (verifies : Verifies) (v : Holding D) : Type 0 where
  pub read : v.unread ≡ []
  pub lawful : IsLawful (node_setting verifies v) v.records
  pub some : is_empty v.records ≡ false
