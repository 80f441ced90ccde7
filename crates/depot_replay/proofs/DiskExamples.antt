-- A stop in an append to the empty journal, computed: what each image holds, and what is no rest.
use Rattle.std.proofs.Common.{◌≡◌, ◌<◌, ℕ, ◌∷◌, [], List, true, false, None, Some, Contains, refl, ap, arith}
use Rattle.depot_base.specs.Calls.{FailsAmong, calls_to_append_all, syncs, writes_at}
use Rattle.depot_base.specs.Cursor.{numeral}
use Rattle.depot_base.specs.File.{closed_block, framed}
use Rattle.depot_outside.specs.Images.{Moment, synced_as, written_at}
use Rattle.depot_outside.specs.Stopping.{IsOutcome, CallsLead, State, after_call, done_before_stop, done_by}
use Rattle.depot_outside.specs.declared.stops.Image.{Image}
use Rattle.depot_outside.specs.declared.stops.Image.TheVariants as image
use Rattle.depot_world.specs.ScheduleStops.{standing_after}
use Rattle.depot_replay.specs.Disks.{IsAtRest, pending_of}

-- how many of two records are kept, by the call in which the stop comes, and the image
behind_the_gate : standing_after (record { call = 2; image = 1 }) ≡ 0
unfolding standing_after
behind_the_gate = refl

in_the_gate : standing_after (record { call = 3; image = 1 }) ≡ 1
unfolding standing_after
in_the_gate = refl

blank_gate : standing_after (record { call = 4; image = 2 }) ≡ 0
unfolding standing_after
blank_gate = refl

in_the_second : standing_after (record { call = 5; image = 0 }) ≡ 1
unfolding standing_after
in_the_second = refl

-- the empty journal, on whose disk a stop waits
abbrev waiting : Image → State
waiting left = record { file = 0 ∷ []; unsynced = synced_as (0 ∷ []); next = Some (record { call = 3; image = left }); fails = []; made = 0 }

-- the disk after the stop, with this file
abbrev stopped_as : List ℕ → State
stopped_as file = record { file = file; unsynced = synced_as file; next = None; fails = []; made = 3 }

its_number : pending_of (waiting image.Blanked).next ≡ Some (record { call = 3; image = 2 })
its_number = refl

rests : (left : Image) → IsAtRest (waiting left)
rests left = record { synced = refl; faultless = refl }

-- a disk whose last write isn't synced doesn't
unsynced : State
unsynced = record { file = 7 ∷ []; unsynced = written_at (synced_as []) [] 0 1; next = None; fails = []; made = 1 }

no_rest : IsAtRest unsynced → ⊥
unfolding unsynced
no_rest rest = let e : (written_at (synced_as []) [] 0 1).writes ≡ [] = ap (λ (m : Moment). m.writes) rest.synced in cc

none_listed : (made : ℕ) → Contains [] made → ⊥
none_listed made among = let at : among.0 < 0 = among.1 in omega (arith, at)

-- the write of the gate fails
fails_at_gate : (left : Image) (t : State) → t ≡ after_call (after_call (after_call (waiting left) (record { call = writes_at 1 (closed_block (7 ∷ [])); failed = false })) (record { call = syncs; failed = false })) (record { call = writes_at 0 (1 ∷ []); failed = true })
    → FailsAmong CallsLead (waiting left) t (calls_to_append_all 0 ((7 ∷ []) ∷ []))
unfolding IsOutcome after_call done_by
fails_at_gate left t is = record {
  before = writes_at 1 (closed_block (7 ∷ [])) ∷ syncs ∷ [];
  failing = writes_at 0 (1 ∷ []);
  rest = syncs ∷ [];
  parts = refl;
  fails = (
    (λ (wrong : false ≡ true). absurd cc, λ among. absurd (none_listed 1 among)),
    ((λ (wrong : false ≡ true). absurd cc, λ among. absurd (none_listed 2 among)), (refl, is)),
  );
}

-- all that was written: the record is kept
written_leaves : FailsAmong CallsLead (waiting image.Written) (stopped_as (1 ∷ 0 ∷ 0 ∷ 0 ∷ 1 ∷ 7 ∷ 0 ∷ [])) (calls_to_append_all 0 ((7 ∷ []) ∷ []))
unfolding after_call done_by done_before_stop framed numeral
written_leaves = fails_at_gate image.Written (stopped_as (1 ∷ 0 ∷ 0 ∷ 0 ∷ 1 ∷ 7 ∷ 0 ∷ [])) refl

-- what was synced last: the block after a closed gate
synced_leaves : FailsAmong CallsLead (waiting image.Synced) (stopped_as (0 ∷ 0 ∷ 0 ∷ 0 ∷ 1 ∷ 7 ∷ 0 ∷ [])) (calls_to_append_all 0 ((7 ∷ []) ∷ []))
unfolding after_call done_by done_before_stop framed numeral
synced_leaves = fails_at_gate image.Synced (stopped_as (0 ∷ 0 ∷ 0 ∷ 0 ∷ 1 ∷ 7 ∷ 0 ∷ [])) refl

-- FF in place of the gate, which is closed, too
blanked_leaves : FailsAmong CallsLead (waiting image.Blanked) (stopped_as (255 ∷ 0 ∷ 0 ∷ 0 ∷ 1 ∷ 7 ∷ 0 ∷ [])) (calls_to_append_all 0 ((7 ∷ []) ∷ []))
unfolding after_call done_by done_before_stop framed numeral
blanked_leaves = fails_at_gate image.Blanked (stopped_as (255 ∷ 0 ∷ 0 ∷ 0 ∷ 1 ∷ 7 ∷ 0 ∷ [])) refl
