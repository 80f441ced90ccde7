-- Starts from a disk in memory.
use Rattle.std.proofs.Common.{◌≡◌, ◌≤◌, ◌<◌, ℕ, suc, min, List, [], ◌∷◌, length, refl, sym, ap, subst, ◌∙◌, inl, inr, arith}
use Rattle.std.specs.Prelude.{⊤}
use Rattle.std.proofs.lemmas.Bool.{lt-leb}
use Rattle.depot_base.specs.Calls.{Call, made, FailsAmong, asks_length, calls_to_start, reads_at, syncs, writes_at}
use Rattle.depot_base.specs.declared.limits.TheConstants.{MOST_JOURNAL}
use Rattle.depot_outside.specs.Images.{Moment, synced_as}
use Rattle.depot_outside.specs.StopImages.{left_by}
use Rattle.depot_outside.specs.Stopping.{State, CallsLead, done_before_stop, done_by}
use Rattle.depot_outside.specs.declared.stops.Image.{Image}
use Rattle.depot_outside.specs.declared.stops.Image.TheVariants as image
use Rattle.depot_replay.specs.Disks.{IsAtRest, StoppedReading}
use Rattle.depot_replay.proofs.DiskLaws.{FailsIn, Gone, StoppedIn, failed_on, fails_in, led_on}
use Rattle.depot_replay.proofs.DiskStops.{StopsAt, stopped_at, stops_later, stops_now}

-- ---- calls that write nothing

abbrev WritesNothing : Call → Type 0
WritesNothing (writes_at at bytes) = ⊥
WritesNothing other = ⊤

abbrev WriteNothing : List Call → Type 0
WriteNothing [] = ⊤
WriteNothing (call ∷ calls) = WritesNothing call × WriteNothing calls

-- the disk is at rest, and its file is unchanged
record IsLeft (s t : State) : Type 0 where
  at_rest : IsAtRest t
  same : t.file ≡ s.file

done_nothing : (call : Call) (s : State) → WritesNothing call → IsAtRest s → ((done_by call s).file ≡ s.file) × ((done_by call s).unsynced ≡ synced_as s.file)
unfolding done_by
done_nothing asks_length s nothing rest = (refl, rest.synced)
done_nothing (reads_at at count) s nothing rest = (refl, rest.synced)
done_nothing (writes_at at bytes) s nothing rest = absurd nothing
done_nothing syncs s nothing rest = (refl, refl)

left_after : (call : Call) (s u : State) → WritesNothing call → IsAtRest s → Gone call s u → IsLeft s u
left_after call s u nothing rest gone =
    let done = done_nothing call s nothing rest in
    let same = gone.file_is ∙ done.0 in
    record { at_rest = record { synced = gone.unsynced_is ∙ done.1 ∙ ap synced_as (sym same); faultless = gone.fails_are ∙ rest.faultless }; same = same }

nothing_before_stop : (call : Call) (s : State) → WritesNothing call → done_before_stop call s ≡ s
unfolding done_before_stop
nothing_before_stop asks_length s nothing = refl
nothing_before_stop (reads_at at count) s nothing = refl
nothing_before_stop (writes_at at bytes) s nothing = absurd nothing
nothing_before_stop syncs s nothing = refl

left_of_rest : (left : Image) (file : List ℕ) → left_by left (synced_as file) file ≡ file
left_of_rest image.Synced file = refl
left_of_rest image.Written file = refl
left_of_rest image.Blanked file = refl

same_in_stop : (call : Call) (s t : State) → WritesNothing call → IsAtRest s → StoppedIn call s t → t.file ≡ s.file
same_in_stop call s t nothing rest x =
    x.file_is ∙ ap (λ (u : State). left_by x.image u.unsynced u.file) (nothing_before_stop call s nothing) ∙ ap (λ (m : Moment). left_by x.image m s.file) rest.synced ∙ left_of_rest x.image s.file

left_after_all : (s t : State) (calls : List Call) → WriteNothing calls → IsAtRest s → CallsLead s (made calls) t → IsLeft s t
left_after_all s t [] nothing rest led = subst (IsLeft s) (sym led) (record { at_rest = rest; same = refl })
left_after_all s t (call ∷ calls) nothing rest led =
    let (u, gone, more) = led_on s t call calls led in
    let one = left_after call s u nothing.0 rest gone in
    let all = left_after_all u t calls nothing.1 one.at_rest more in
    record { at_rest = all.at_rest; same = all.same ∙ one.same }

-- what a stop in one of them leaves, and in which it came
record StopsReading (s t : State) (calls : ℕ) : Type 0 where
  place : ℕ
  image : Image
  within : place < calls
  stops : StopsAt s t place image
  same : t.file ≡ s.file

stops_reading : (s t : State) (calls : List Call) → WriteNothing calls → IsAtRest s → FailsIn s calls t → StopsReading s t (length calls)
stops_reading s t [] nothing rest f = absurd f
stops_reading s t (call ∷ calls) nothing rest f = elim (failed_on s t call calls rest.faultless f) [
  | inl x ↦ record { place = 0; image = x.image; within = omega arith; stops = stops_now call s t x; same = same_in_stop call s t nothing.0 rest x }
  | inr (u, gone, later) ↦
      let one = left_after call s u nothing.0 rest gone in
      let more = stops_reading u t calls nothing.1 one.at_rest later in
      record { place = suc more.place; image = more.image; within = omega (arith, more.within); stops = stops_later call s u t more.place more.image gone more.stops; same = more.same ∙ one.same }
]

-- ---- a start from a journal

abbrev calls_to_read : List ℕ → List Call
calls_to_read file = syncs ∷ asks_length ∷ reads_at 0 (min (length file) MOST_JOURNAL) ∷ []

start_reads : (file : List ℕ) → 2 ≤ length file → calls_to_start file ≡ calls_to_read file
start_reads file long = rw (lt-leb (length file) 1 long) refl

-- a start leaves the file as it is
pub started : (s t : State) → IsAtRest s → 2 ≤ length s.file → CallsLead s (made (calls_to_start s.file)) t → IsAtRest t × (t.file ≡ s.file)
started s t rest long led =
    let left = left_after_all s t (calls_to_read s.file) (tt, (tt, (tt, tt))) rest (subst (λ (l : List Call). CallsLead s (made l) t) (start_reads s.file long) led) in
    (left.at_rest, left.same)

-- and so does a stop in it
pub stopped_starting : (s t : State) → IsAtRest s → 2 ≤ length s.file → FailsAmong CallsLead s t (calls_to_start s.file) → StoppedReading s t 3
stopped_starting s t rest long f =
    let x = stops_reading s t (calls_to_read s.file) (tt, (tt, (tt, tt))) rest (subst (λ (l : List Call). FailsIn s l t) (start_reads s.file long) (fails_in s t (calls_to_start s.file) f)) in
    record { stopped = stopped_at s t x.place x.image 3 x.stops x.within; same = x.same }

-- ---- a start from an empty disk
