-- How two digests compare, digit by digit.
use Rattle.std.specs.Prelude.{ℕ, ◌<◌, List, slice_index}
use Rattle.depot_model.specs.texts.Winternitz.{digits_of}

-- at this place the second digest's digit is smaller than the first's
abbrev pub IsSmallerAt : List ℕ → List ℕ → ℕ → Type 0
IsSmallerAt first second place = (place < 67) × (slice_index (digits_of second) place < slice_index (digits_of first) place)

-- this is the first place at which it is
pub record IsFirstSmaller (first second : List ℕ) (place : ℕ) : Type 0 where
  pub here : IsSmallerAt first second place
  pub not_before : (k : ℕ) → k < place → ¬ IsSmallerAt first second k

-- at some place it is
abbrev pub HasSmallerDigit : List ℕ → List ℕ → Type 0
HasSmallerDigit first second = (place : ℕ) × IsSmallerAt first second place
