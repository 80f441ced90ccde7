-- A journal as callers see it.
use Rattle.std.specs.Prelude.{◌≤◌, ℕ, ◌+◌, ◌-◌, ◌*◌, min, List, Bool, length, refl, vec_capacity, vec_len}
use Rattle.std.specs.Coded.{Coded, code_by, coded×, coded_ℕ, coded_bool, coded_list}
use Rattle.depot_base.specs.File.{blocks}
use Rattle.depot_base.specs.declared.limits.TheConstants.{MOST_RECORDS}
use Rattle.depot_outside.specs.declared.disk.Disk as disk_of
use Rattle.depot_journal.specs.declared.journal_room.Room.{Room}
use Rattle.depot_journal.specs.declared.mirror.Mirror.{Mirror}

-- its records, its disk, whether a call on the disk has failed, and for how many more records and bytes of bodies
-- memory is reserved
pub record JournalContents (D : Type 0) : Type 0 where
  pub records : List (List ℕ)
  pub disk : D
  pub is_stopped : Bool
  pub room_records : ℕ
  pub room_bytes : ℕ

abbrev view_of : {D : Type 0} → List (List ℕ) × (D × (Bool × (ℕ × ℕ))) → JournalContents D
view_of (records, (disk, (is_stopped, (room_records, room_bytes)))) = record { records = records; disk = disk; is_stopped = is_stopped; room_records = room_records; room_bytes = room_bytes }

abbrev pub view_code : {D : Type 0} → Coded D → Coded (JournalContents D)
view_code {D} code_of =
    code_by (List (List ℕ) × (D × (Bool × (ℕ × ℕ)))) (coded× (coded_list (coded_list coded_ℕ)) (coded× code_of (coded× coded_bool (coded× coded_ℕ coded_ℕ))))
    (λ v. (v.records, (v.disk, (v.is_stopped, (v.room_records, v.room_bytes))))) view_of (λ _. refl)

-- The reserved memory covers these records: a record takes 5 bytes more than its body.
abbrev pub HasMemoryFor : {D : Type 0} → JournalContents D → List (List ℕ) → Type 0
HasMemoryFor v texts = (length texts ≤ v.room_records) × (length (blocks texts) ≤ v.room_bytes + 5 * length texts)

-- Memory is reserved for this many records and bytes, beside the records held and their blocks, as far as the journal
-- may hold them: in the list of spans, in the bytes of the blocks, and on the disk for bytes and calls.
pub record IsReserved (records bytes held long spans_capacity bytes_capacity disk_bytes disk_calls : ℕ) : Type 0 where
  pub spans_fit : held + min records (MOST_RECORDS - held) ≤ spans_capacity
  pub blocks_fit : long + (6 * min records (MOST_RECORDS - held) + bytes) ≤ bytes_capacity
  pub written_fit : 6 * min records (MOST_RECORDS - held) + bytes ≤ disk_bytes
  pub calls_fit : 4 * min records (MOST_RECORDS - held) ≤ disk_calls

-- for the records and bytes of this room there is memory in the mirror and on its disk
abbrev pub IsReservedIn : {D : Type 0} → disk_of.Ghosts D → Mirror D → Room → Type 0
IsReservedIn g mirror room =
    IsReserved room.records room.bytes (vec_len mirror.spans) (vec_len mirror.bytes) (vec_capacity mirror.spans) (vec_capacity mirror.bytes)
    (g.room_bytes mirror.disk) (g.room_calls mirror.disk)
