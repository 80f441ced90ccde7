-- How calls change a disk in memory, some of which fail, and in one of which it may stop.
use Rattle.std.proofs.Common.{subst}
use Rattle.std.specs.Prelude.{◌≡◌, ◌↔◌, ℕ, ◌+◌, ◌-◌, ◌^◌, min, List, [], ◌∷◌, ◌++◌, length, Bool, true, Option, None, Some, Contains, if◌then◌else◌}
use Rattle.depot_base.specs.Calls.{Call, Made, asks_length, reads_at, writes_at, syncs}
use Rattle.depot_outside.specs.Images.{Moment, synced_as, written_at}
use Rattle.depot_outside.specs.StopImages.{counted_down, image_due, left_by, overwritten}
use Rattle.depot_outside.specs.declared.mem_disk.MemDisk.{MemDisk}
use Rattle.depot_outside.specs.declared.stops.Image.{Image}
use Rattle.depot_outside.specs.declared.stops.Stop.{Stop}

-- All that calls on a disk in memory depend on: the bytes of its file, what there was at the last sync and the writes
-- since, the stop that is set, the numbers of the calls that fail, and how many were made.
pub record State : Type 0 where
  pub file : List ℕ
  pub unsynced : Moment
  pub next : Option Stop
  pub fails : List ℕ
  pub made : ℕ

abbrev pub state_of : MemDisk → State
state_of d = record { file = d.file.bytes.items; unsynced = d.file.history.moments.now; next = d.calls.next; fails = d.calls.calls.fails; made = d.calls.calls.made }

-- the state of a disk with this file, of which nothing is unsynced and no call was made
abbrev pub fresh : List ℕ → List ℕ → State
fresh file fails = record { file = file; unsynced = synced_as file; next = None; fails = fails; made = 0 }

-- what a call does that doesn't fail
unfoldable pub done_by : Call → State → State
done_by asks_length s = s
done_by (reads_at at count) s = s
done_by (writes_at at bytes) s = record s { file = overwritten s.file at bytes; unsynced = written_at s.unsynced s.file at (length bytes) }
done_by syncs s = record s { unsynced = synced_as s.file }

-- what it has done before a stop that comes in it: a write has written, and a sync hasn't synced
unfoldable pub done_before_stop : Call → State → State
done_before_stop (writes_at at bytes) s = done_by (writes_at at bytes) s
done_before_stop other s = s

-- an image is left, and is stable
abbrev pub left_as : Image → State → State
left_as image s = record s { file = left_by image s.unsynced s.file; unsynced = synced_as (left_by image s.unsynced s.file) }

-- one call more was made, and the stop is a call nearer
abbrev pub one_call_later : State → State
one_call_later s = record s { next = counted_down s.next; made = min (s.made + 1) (2 ^ 64 - 1) }

-- The state after a call: an image, where the disk stopped in it; the same, where it failed otherwise.
unfoldable pub after_call : State → Made → State
after_call s m = elim (image_due s.next) [
  | Some image ↦ one_call_later (left_as image (done_before_stop m.call s))
  | None ↦ one_call_later (if m.failed then s else done_by m.call s)
]

-- A call fails exactly where the disk stops in it, or where it is among those that fail.
unfoldable pub IsOutcome : State → Bool → Type 0
IsOutcome s failed = elim (image_due s.next) [
  | Some image ↦ failed ≡ true
  | None ↦ (failed ≡ true) ↔ Contains s.fails (one_call_later s).made
]

-- these calls lead from one state to another
abbrev pub CallsLead : State → List Made → State → Type 0
CallsLead s [] t = t ≡ s
CallsLead s (m ∷ ms) t = IsOutcome s m.failed × CallsLead (after_call s m) ms t

-- calls may follow one another
pub leads_more : (s t u : State) (calls more : List Made) → CallsLead s calls t → CallsLead t more u → CallsLead s (calls ++ more) u
leads_more s t u [] more first second = subst (λ (x : State). CallsLead x more u) first second
leads_more s t u (m ∷ ms) more first second = (first.0, leads_more (after_call s m) t u ms more first.1 second)
