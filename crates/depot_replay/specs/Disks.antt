-- A disk in memory between two events of a node, and the stop that is set on it.
use Rattle.std.specs.Prelude.{◌≡◌, ◌≤◌, ℕ, ◌*◌, List, [], ◌++◌, length, take, Option, None, Some}
use Rattle.depot_base.specs.File.{StandsFor}
use Rattle.depot_outside.specs.Images.{synced_as}
use Rattle.depot_outside.specs.Stopping.{State}
use Rattle.depot_outside.specs.declared.stops.Image.{Image}
use Rattle.depot_outside.specs.declared.stops.Image.TheVariants as image
use Rattle.depot_outside.specs.declared.stops.Stop.{Stop}
use Rattle.depot_world.specs.Run.{PendingStop}
use Rattle.depot_world.specs.ScheduleStops.{standing_after}

-- the number of an image, as schedules write it
abbrev pub image_number : Image → ℕ
image_number image.Synced = 0
image_number image.Written = 1
image_number image.Blanked = 2

-- the stop that waits on a disk, as a run keeps it
abbrev pub pending_of : Option Stop → Option PendingStop
pending_of None = None
pending_of (Some stop) = Some (record { call = stop.call; image = image_number stop.image })

-- All that was written is synced, and only a stop makes a call fail.
pub record IsAtRest (s : State) : Type 0 where
  pub synced : s.unsynced ≡ synced_as s.file
  pub faultless : s.fails ≡ []

-- The stop that was set came in one of so many calls. It left a disk at rest, without a stop.
pub record Stopped (s t : State) (calls : ℕ) : Type 0 where
  pub pending : PendingStop
  pub waited : pending_of s.next ≡ Some pending
  pub within : pending.call ≤ calls
  pub at_rest : IsAtRest t
  pub none_waits : pending_of t.next ≡ None

-- It came while these records were appended, by four calls each, and as many of them are there as a run says.
pub record StoppedAppending (s t : State) (bodies texts : List (List ℕ)) : Type 0 where
  pub stopped : Stopped s t (4 * length texts)
  pub stands : StandsFor t.file (bodies ++ take (standing_after stopped.pending) texts)

-- It came in one of so many calls that write nothing, and left the file as it was.
pub record StoppedReading (s t : State) (calls : ℕ) : Type 0 where
  pub stopped : Stopped s t calls
  pub same : t.file ≡ s.file
