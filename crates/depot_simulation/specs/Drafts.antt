-- What faulty nodes sign.
use Rattle.std.specs.Prelude.{◌≡◌, ℕ, ◌<◌, ◌≤◌, ◌^◌, List, length, true}
use Rattle.depot_base.specs.declared.limits.TheConstants.{MOST_ENTRIES}
use Rattle.depot_base.specs.declared.update.Update.{Update}
use Rattle.depot_base.specs.declared.write.Change.{Change}
use Rattle.depot_model.specs.updates.Changes.{AreChanges}
use Rattle.depot_schedule.specs.Schedules.{FitsEvent}
use Rattle.depot_schedule.specs.EventWords.{FitsHistory, is_declared}
use Rattle.depot_schedule.specs.declared.event.Event.TheVariants as event
use Rattle.depot_schedule.specs.declared.event.HistoryWord.{HistoryWord}
use Rattle.depot_schedule.specs.declared.event.Ref.{Ref}
use Rattle.depot_schedule.specs.declared.member.Member.{Member}
use Rattle.depot_schedule.specs.declared.schedule.Schedule.{Schedule}

-- the fields of an update that a faulty node signs are in the ranges of a schedule
pub record MaySign (writer seq clock : ℕ) (changes : List Change) (refs : List Ref) (history : HistoryWord) : Type 0 where
  pub writer_is : (1 ≤ writer) × (writer ≤ 65535)
  pub seq_most : seq ≤ 4294967295
  pub clock_least : 1 ≤ clock
  pub clock_most : clock ≤ 9223372036854775807
  pub changes_are : AreChanges changes
  pub few : length refs ≤ MOST_ENTRIES
  pub history_fits : FitsHistory history

-- an update of this writer, with this number
pub record IsNumbered (writer seq : ℕ) (u : Update) : Type 0 where
  pub writer_is : u.writer ≡ writer
  pub seq_is : u.seq ≡ seq

-- the signer of a statement is a member, and the statement's number is that of a leaf
pub record HasLeaf (height : ℕ) (members : List Member) (writer seq : ℕ) : Type 0 where
  pub declared : is_declared members writer ≡ true
  pub leaf : seq < 2 ^ height

-- some schedule lets a faulty node vouch for what these references name
abbrev pub MayVouchFor : ℕ → ℕ → List Ref → Type 0
MayVouchFor node seq refs = (s : Schedule) × ((label : List ℕ) × FitsEvent s (event.Voucher label node seq refs))
