-- What is seen of a store.
use Rattle.std.specs.Prelude.{◌≡◌, ℕ, List, [], Bool, false, refl}
use Rattle.std.specs.Coded.{Coded, code_by, coded×, coded_ℕ, coded_bool, coded_list}
use Rattle.depot_base.specs.declared.key.RosterEntry.{RosterEntry}
use Rattle.depot_base.specs.declared.record.Record.{Record}
use Rattle.depot_model.specs.checks.Checks.{Setting}
use Rattle.depot_model.specs.lists.Codes.{coded_record, coded_roster_entry}
use Rattle.depot_model.specs.journals.JournalCalls.{JournalView}
use Rattle.depot_model.specs.texts.Roster.{Verifies}
use Rattle.depot_outside.specs.declared.disk.Disk.{Ghosts}
use Rattle.depot_readings.specs.ReadingsView.{Known}

-- What is seen: the node's own number, its roster, the records of its journal that were read, the texts of those that weren't yet, whether
-- the journal is stopped, and its disk.
pub record Holding (D : Type 0) : Type 0 where
  pub me : ℕ
  pub listed : List RosterEntry
  pub records : List Record
  pub unread : List (List ℕ)
  pub stopped : Bool
  pub disk : D

abbrev holding_of : {D : Type 0} → ℕ × (List RosterEntry × (List Record × (List (List ℕ) × (Bool × D)))) → Holding D
holding_of (me, (listed, (records, (unread, (stopped, disk))))) = record { me = me; listed = listed; records = records; unread = unread; stopped = stopped; disk = disk }

abbrev pub holding_code : {D : Type 0} → Coded D → Coded (Holding D)
holding_code {D} code_of =
    code_by (ℕ × (List RosterEntry × (List Record × (List (List ℕ) × (Bool × D)))))
    (coded× coded_ℕ (coded× (coded_list coded_roster_entry) (coded× (coded_list coded_record)
    (coded× (coded_list (coded_list coded_ℕ)) (coded× coded_bool code_of)))))
    (λ v. (v.me, (v.listed, (v.records, (v.unread, (v.stopped, v.disk)))))) holding_of (λ _. refl)

-- the setting of the node
abbrev pub node_setting : {D : Type 0} → Verifies → Holding D → Setting
node_setting verifies v = record { verifies = verifies; me = v.me; listed = v.listed }

-- what is read off its records
abbrev pub known : {D : Type 0} → Holding D → Known
known v = record { me = v.me; listed = v.listed; records = v.records }

-- the same node, on whose disk nothing was done, with these records, and these texts that weren't read yet
abbrev pub with_records : {D : Type 0} → Holding D → List Record → List (List ℕ) → Holding D
with_records v J texts = record { me = v.me; listed = v.listed; records = J; unread = texts; stopped = v.stopped; disk = v.disk }

-- its journal, on its disk
abbrev pub journal_on : {D : Type 0} → Ghosts D → JournalView (Holding D)
journal_on g = record {
  records = λ v. v.records;
  stopped = λ v. v.stopped;
  handle = λ v. g.handle v.disk;
  faults = λ v. g.faults v.disk;
  is_faultless = λ v. g.is_faultless v.disk;
  tells = λ v. g.tells v.disk;
  may_leave = λ v file. g.may_leave v.disk file;
  moment = λ v. g.moment v.disk;
  left_since = λ v t file. g.left_since v.disk t file;
  reads = λ v. g.seen v.disk;
  after = λ v calls w. g.after v.disk calls w.disk;
}

-- it runs, and every record was read
pub record IsWhole {D : Type 0} (v : Holding D) : Type 0 where
  pub runs : v.stopped ≡ false
  pub read : v.unread ≡ []
