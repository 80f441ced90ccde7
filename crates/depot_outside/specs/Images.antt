-- The crash images of a disk in memory, now and at each earlier moment.
--
-- At each moment there is the file of the last sync, and the writes since. A stop may cut each of these short.
use Rattle.std.specs.Prelude.{◌≡◌, ◌⊎◌, ℕ, ◌≤◌, List, [], ◌∷◌, length, suc}
use Rattle.std.specs.Coded.{×_prop, le_prop, Coded-set, coded_list, coded_ℕ}
use Rattle.std.proofs.Common.{inl, inr, arith}
use Rattle.depot_base.specs.Disk.{IsTorn}

-- a write of this many bytes at an offset, and the file before it
pub record Written : Type 0 where
  pub at : ℕ
  pub count : ℕ
  pub file : List ℕ

-- the file of the last sync, and the writes since, newest first
pub record Moment : Type 0 where
  pub synced : List ℕ
  pub writes : List Written

-- what there is now, and at the earlier moments, newest first
pub record Moments : Type 0 where
  pub now : Moment
  pub past : List Moment

-- an empty file, and no moment before it
abbrev pub first_moment : Moments
first_moment = record { now = record { synced = []; writes = [] }; past = [] }

-- this file was synced, and nothing was written since
abbrev pub synced_as : List ℕ → Moment
synced_as file = record { synced = file; writes = [] }

-- this many bytes more were written, at an offset of this file
abbrev pub written_at : Moment → List ℕ → ℕ → ℕ → Moment
written_at m file at count = record { synced = m.synced; writes = record { at = at; count = count; file = file } ∷ m.writes }

-- one moment more, at which this file was synced
abbrev pub after_sync : Moments → List ℕ → Moments
after_sync m file = record { now = synced_as file; past = m.now ∷ m.past }

-- one moment more, at which this many bytes were written at an offset of this file
abbrev pub after_write : Moments → List ℕ → ℕ → ℕ → Moments
after_write m file at count = record { now = written_at m.now file at count; past = m.now ∷ m.past }

-- the crash images after a sync of this file and these writes
abbrev pub images_of : List ℕ → List Written → List ℕ → Type 0
images_of synced [] image = image ≡ synced
images_of synced (w ∷ writes) image = (base : List ℕ) × images_of synced writes base × IsTorn w.at w.count base image

abbrev pub images_at : Moment → List ℕ → Type 0
images_at m image = images_of m.synced m.writes image

-- the crash images of now and of earlier moments, these newest first, from that one on; the oldest has the number 0
abbrev pub left_from : Moment → List Moment → ℕ → List ℕ → Type 0
left_from now [] t image = images_at now image
left_from now (m ∷ past) t image = images_at now image ⊎ ((t ≤ length past) × left_from m past t image)

-- the writes lead from the file of the last sync to this one, each by a change of its range alone
abbrev pub LeadTo : List ℕ → List Written → List ℕ → Type 0
LeadTo synced [] file = file ≡ synced
LeadTo synced (w ∷ writes) file = IsTorn w.at w.count w.file file × LeadTo synced writes w.file

pub LeadTo-prop : (synced : List ℕ) (writes : List Written) (file : List ℕ) → IsProp (LeadTo synced writes file)
LeadTo-prop synced [] file = Coded-set (coded_list coded_ℕ) _ _
LeadTo-prop synced (w ∷ writes) file = ×_prop (hlevel (Coded-set (coded_list coded_ℕ), le_prop)) (LeadTo-prop synced writes w.file)

-- the file as it reads is one of its images
pub reads_as : (synced : List ℕ) (writes : List Written) (file : List ℕ) → LeadTo synced writes file → images_of synced writes file
reads_as synced [] file lead = lead
reads_as synced (w ∷ writes) file lead = (w.file, reads_as synced writes w.file lead.1, lead.0)

pub counts : (now : Moment) (past : List Moment) (t : ℕ) (image : List ℕ) → images_at now image → left_from now past t image
counts now [] t image here = here
counts now (m ∷ past) t image here = inl here

pub only : (now : Moment) (past : List Moment) (image : List ℕ) → left_from now past (length past) image → images_at now image
only now [] image left = left
only now (m ∷ past) image (inl here) = here
only now (m ∷ past) image (inr before) = let late : suc (length past) ≤ length past = before.0 in absurd (omega arith)
