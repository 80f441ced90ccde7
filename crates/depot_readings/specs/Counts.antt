-- How much a journal takes.
use Rattle.std.specs.Prelude.{◌≡◌, ℕ, List, ◌++◌, Option, length}
use Rattle.depot_base.specs.declared.check.Full.{Full}
use Rattle.depot_base.specs.declared.record.Record.{Record}
use Rattle.depot_model.specs.checks.Checks.{Setting}
use Rattle.depot_model.specs.journals.Journal.{accepted}
use Rattle.depot_model.specs.journals.Lawful.{IsLawful}
use Rattle.depot_model.specs.texts.Records.{journal_bytes}
use Rattle.depot_model.specs.checks.Room.{foreign_leaves, full_by}
use Rattle.depot_readings.specs.LeavesWith.{leaves_with}
use Rattle.depot_readings.specs.NewRecords.{AreNew}
use Rattle.depot_readings.specs.declared.counts.JournalCounts.{JournalCounts}

-- The counts are those of these records, in the journal of a node of this number.
pub record AreCountsOf (me : ℕ) (J : List Record) (t : JournalCounts) : Type 0 where
  pub records : t.records ≡ length J
  pub bytes : t.bytes ≡ journal_bytes J
  pub leaves : t.leaves ≡ length (foreign_leaves me J)

-- For every lawful journal with these counts, to which the records are new and with which there are this many leaves
-- then: this is the limit that it would pass with them.
abbrev pub LimitsNew : JournalCounts → List Record → Option ℕ → Option Full → Type 0
LimitsNew t new leaves_then limit = (here : Setting) (J : List Record) → IsLawful here J → AreNew here J new → AreCountsOf here.me J t
    → leaves_then ≡ leaves_with (accepted J) t.leaves new → limit ≡ full_by here.me J new

-- For every journal with the old counts that is lawful with the records after it and has this many leaves then: the new
-- counts are those with the records.
abbrev pub CountsMore : JournalCounts → List Record → Option ℕ → JournalCounts → Type 0
CountsMore t new leaves_then then = (here : Setting) (J : List Record) → IsLawful here (J ++ new) → AreCountsOf here.me J t
    → leaves_then ≡ leaves_with (accepted J) t.leaves new → AreCountsOf here.me (J ++ new) then
