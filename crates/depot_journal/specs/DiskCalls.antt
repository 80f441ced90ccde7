-- What a call does to a disk that it is given, whatever else it does.
use Rattle.std.specs.Prelude.{◌≡◌, ◌≤◌, ℕ, ◌+◌, List, []}
use Rattle.depot_base.specs.Calls.{Call, FailsAmong, made}
use Rattle.depot_base.specs.Disk.{Within}
use Rattle.depot_base.specs.Faults.{HasCause}
use Rattle.depot_outside.specs.Told.{TimePasses}
use Rattle.depot_outside.specs.declared.disk.Disk as disk_of

-- The call uses this disk and no other. Its bytes are visible as before, and the call fails on it exactly where its
-- count of faults rose. A disk that never fails from now on stays one.
pub record IsDiskCall {D : Type 0} (g : disk_of.Ghosts D) (old new : D) (failed : Type 0) : Type 0 where
  pub handle : g.handle new ≡ g.handle old
  pub tells : g.tells new ≡ g.tells old
  pub cause : HasCause (g.faults old) (g.faults new) failed
  pub faultless : g.is_faultless old → g.is_faultless new × (g.faults new ≡ g.faults old)

-- Which calls it makes on the disk: where it's done, all of these, and where it failed on the disk, those up to the one
-- that failed. It makes no other.
pub record MakesOnDisk {D : Type 0} (g : disk_of.Ghosts D) (old new : D) (calls : List Call) (done failed : Type 0) : Type 0 where
  pub all : done → g.after old (made calls) new
  pub failing : failed → FailsAmong g.after old new calls

-- The call may reserve memory for the disk, and does nothing else to it: no call on the file is made, the file reads as
-- before, and each crash image was possible before. The disk has only aged.
pub record OnlyReserves {D : Type 0} (g : disk_of.Ghosts D) (old new : D) : Type 0 where
  pub handle : g.handle new ≡ g.handle old
  pub tells : g.tells new ≡ g.tells old
  pub faults : g.faults new ≡ g.faults old
  pub faultless : g.is_faultless old → g.is_faultless new
  pub made : g.after old [] new
  pub seen : g.seen new ≡ g.seen old
  pub images : Within (g.may_leave old) (g.may_leave new)
  pub time : TimePasses g old new

-- Of the memory that is reserved for the disk, it takes no more than for so many bytes and calls.
pub record SpendsRoom {D : Type 0} (g : disk_of.Ghosts D) (old new : D) (bytes calls : ℕ) : Type 0 where
  pub bytes_left : g.room_bytes old ≤ g.room_bytes new + bytes
  pub calls_left : g.room_calls old ≤ g.room_calls new + calls
