-- The updates and values that a bundle sends, frame by frame, as far as they are chosen.
use Rattle.std.specs.Prelude.{◌≡◌, ℕ, ◌+◌, ◌≤◌, List, ◌++◌, length, map, sum_by, Bool, true, false, Result, Ok, Err}
use Rattle.std.specs.Borrow.{Bor}
use Rattle.std.specs.List.{AllByRecursion, flat_map}
use Rattle.depot_base.specs.declared.limits.TheConstants.{MOST_BUNDLE, MOST_BUNDLE_FRAMES, MOST_PAYLOAD}
use Rattle.depot_model.specs.texts.Frames.{Frame, text_of_frame}
use Rattle.depot_model.specs.exchange.Bundle.{Parcel, frames_of, bytes_of_frames, sent_foreign}
use Rattle.depot_streams.specs.declared.sending.Sending.{Sending}

-- ---- parcels that fit

-- these parcels fit into one bundle
pub record DoFit (xs : List Parcel) : Type 0 where
  pub within : bytes_of_frames (flat_map frames_of xs) ≤ MOST_BUNDLE
  pub few : length (flat_map frames_of xs) ≤ MOST_BUNDLE_FRAMES

-- These parcels are what is chosen so far: their frames, how many of them there are of each sort, and the ids of the updates that
-- the node didn't write. They fit into a bundle.
pub record Holds (me : ℕ) (xs : List Parcel) (s : Sending) : Type 0 where
  pub frames : s.frames ≡ flat_map text_of_frame (flat_map frames_of xs)
  pub updates : s.updates ≡ sum_by (λ x. length x.told) xs
  pub values : s.values ≡ sum_by (λ x. length x.values) xs
  pub ids : s.ids ≡ sent_foreign me xs
  pub fit : DoFit xs

-- ---- one parcel more

-- the texts that are lent
abbrev pub payloads_of : List (Bor (List ℕ)) → List (List ℕ)
payloads_of lent = map (λ t. t.now) lent

-- each of these texts is short enough for a frame
abbrev pub ArePayloads : List (List ℕ) → Type 0
ArePayloads texts = AllByRecursion (λ t. length t ≤ MOST_PAYLOAD) texts

-- the frames of texts, all under one tag
abbrev pub frames_under : ℕ → List (List ℕ) → List Frame
frames_under tag texts = map (λ t. record { tag = tag; payload = t }) texts

-- the frames of the texts of statements, and of the values after them
abbrev pub parcel_frames : List (List ℕ) → List (List ℕ) → List Frame
parcel_frames statements values = frames_under 2 statements ++ frames_under 3 values

-- what is chosen is short enough
pub record IsShort (s : Sending) : Type 0 where
  pub within : length s.frames ≤ MOST_BUNDLE
  pub few : s.updates + s.values ≤ MOST_BUNDLE_FRAMES

-- these frames follow those before them
pub record HasAdded (s t : Sending) (statements behind : List (List ℕ)) : Type 0 where
  pub frames : t.frames ≡ s.frames ++ flat_map text_of_frame (parcel_frames statements behind)
  pub updates : t.updates ≡ s.updates + length statements
  pub values : t.values ≡ s.values + length behind
  pub ids : t.ids ≡ s.ids
  pub short : IsShort t

-- with these frames it would be too long
pub record HasNoRoom (s : Sending) (statements values : List (List ℕ)) : Type 0 where
  pub over : length s.frames + bytes_of_frames (parcel_frames statements values) ≤ MOST_BUNDLE → s.updates + s.values + length (parcel_frames statements values) ≤ MOST_BUNDLE_FRAMES → ⊥

-- the frames were added, or there is no room for them
abbrev pub Adds : {E : Type 0} → Sending → List (List ℕ) → List (List ℕ) → Result Bool E → Sending → Type 0
Adds s statements values (Ok true) t = HasAdded s t statements values
Adds s statements values (Ok false) t = (t ≡ s) × HasNoRoom s statements values
Adds s statements values (Err e) t = Unit {0}
