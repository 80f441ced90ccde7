-- Calls on a small disk, and stops of it, computed: what each gives, and what it doesn't.
use Rattle.std.proofs.Common.{◌≡◌, ℕ, ◌∷◌, [], get_or, true, false, refl, subst, Some, None, arith}
use Rattle.depot_base.specs.Calls.{syncs, writes_at}
use Rattle.depot_outside.specs.Images.{Moment, synced_as, written_at}
use Rattle.depot_outside.specs.StopImages.{counted_down, image_due, left_by, overwritten}
use Rattle.depot_outside.specs.Stopping.{IsOutcome, State, after_call, done_before_stop, done_by, fresh}
use Rattle.depot_outside.specs.declared.stops.Image.TheVariants as image

-- of the file 1 2 3, which was synced, the bytes 7 8 were written at 2
one_write : Moment
one_write = written_at (synced_as (1 ∷ 2 ∷ 3 ∷ [])) (1 ∷ 2 ∷ 3 ∷ []) 2 2

its_file : overwritten (1 ∷ 2 ∷ 3 ∷ []) 2 (7 ∷ 8 ∷ []) ≡ 1 ∷ 2 ∷ 7 ∷ 8 ∷ []
its_file = refl

nothing_since : left_by image.Synced one_write (1 ∷ 2 ∷ 7 ∷ 8 ∷ []) ≡ 1 ∷ 2 ∷ 3 ∷ []
unfolding one_write
nothing_since = refl

all_writes : left_by image.Written one_write (1 ∷ 2 ∷ 7 ∷ 8 ∷ []) ≡ 1 ∷ 2 ∷ 7 ∷ 8 ∷ []
all_writes = refl

written_bytes_blank : left_by image.Blanked one_write (1 ∷ 2 ∷ 7 ∷ 8 ∷ []) ≡ 1 ∷ 2 ∷ 255 ∷ 255 ∷ []
unfolding one_write
written_bytes_blank = refl

-- a byte that wasn't written stays
not_all_blank : left_by image.Blanked one_write (1 ∷ 2 ∷ 7 ∷ 8 ∷ []) ≡ 255 ∷ 255 ∷ 255 ∷ 255 ∷ [] → ⊥
unfolding one_write
not_all_blank e = cc

-- a stop in the second call from here isn't due yet, and is in the next
not_yet : image_due (Some (record { call = 2; image = image.Written })) ≡ None
not_yet = refl

then_due : image_due (counted_down (Some (record { call = 2; image = image.Written }))) ≡ Some image.Written
then_due = refl

-- ---- calls, of which the second fails

disk : State
disk = fresh (1 ∷ 2 ∷ 3 ∷ []) (2 ∷ [])

written : State
written = record { file = 1 ∷ 2 ∷ 7 ∷ 8 ∷ []; unsynced = one_write; next = None; fails = 2 ∷ []; made = 1 }

a_write : after_call disk (record { call = writes_at 2 (7 ∷ 8 ∷ []); failed = false }) ≡ written
unfolding disk written one_write after_call done_by
a_write = refl

-- the first call doesn't fail
first_goes : IsOutcome disk false
unfolding disk IsOutcome
first_goes = (
  λ (wrong : false ≡ true). absurd cc,
  λ among.
      let at : among.0 ≡ 0 = omega (arith, among.1) in
      let wrong : 2 ≡ 1 = subst (λ (k : ℕ). get_or (2 ∷ []) k 1 ≡ 1) at among.2 in
      absurd (omega (arith, wrong)),
)

-- the second does, and changes only how many were made
second_fails : IsOutcome written true
unfolding written IsOutcome
second_fails = (λ _. (0, omega arith, refl), λ _. refl)

second_does_not_go : IsOutcome written false → ⊥
unfolding written IsOutcome
second_does_not_go is = let wrong : false ≡ true = is.1 (0, omega arith, refl) in cc

a_sync_that_fails : after_call written (record { call = syncs; failed = true }) ≡ record written { made = 2 }
unfolding written after_call
a_sync_that_fails = refl

-- where the disk stops in it, the image is left and synced
a_stop_in_a_sync : after_call (record written { next = Some (record { call = 1; image = image.Blanked }) }) (record { call = syncs; failed = true })
    ≡ record written { file = 1 ∷ 2 ∷ 255 ∷ 255 ∷ []; unsynced = synced_as (1 ∷ 2 ∷ 255 ∷ 255 ∷ []); made = 2 }
unfolding written one_write after_call done_before_stop
a_stop_in_a_sync = refl
