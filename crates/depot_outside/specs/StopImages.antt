-- In which call a disk in memory stops, and the crash image of that stop.
use Rattle.std.specs.Prelude.{◌≡◌, ℕ, zero, suc, ◌+◌, ◌-◌, List, [], ◌∷◌, ◌++◌, length, take, drop, Option, None, Some, nat_le, if◌then◌else◌, map}
use Rattle.depot_outside.specs.Images.{Moment, Written}
use Rattle.depot_outside.specs.declared.stops.Image.{Image}
use Rattle.depot_outside.specs.declared.stops.Image.TheVariants as image
use Rattle.depot_outside.specs.declared.stops.Stop.{Stop}
use Rattle.depot_outside.specs.declared.stops.Turn.{Turn}
use Rattle.depot_outside.specs.declared.stops.Turn.TheVariants as turn

-- the image of a number
abbrev pub image_of_number : ℕ → Image
image_of_number zero = image.Synced
image_of_number (suc zero) = image.Written
image_of_number (suc (suc n)) = image.Blanked

-- The stop that is set, before the next call and after it. A stop in call 1 comes in it.
abbrev pub counted_down : Option Stop → Option Stop
counted_down None = None
counted_down (Some stop) = if nat_le stop.call 1 then None else Some (record { call = stop.call - 1; image = stop.image })

-- what the stop leaves that comes in the next call
abbrev pub image_due : Option Stop → Option Image
image_due None = None
image_due (Some stop) = if nat_le stop.call 1 then Some stop.image else None

-- The disk stops in a call exactly where a stop is due.
abbrev pub IsTurn : Option Image → Turn → Type 0
IsTurn stop turn.Made = stop ≡ None
IsTurn stop turn.Fails = stop ≡ None
IsTurn stop (turn.Stops left) = stop ≡ Some left

-- how many faults it is
abbrev pub faults_in : Turn → ℕ
faults_in turn.Made = 0
faults_in turn.Fails = 1
faults_in (turn.Stops left) = 1

-- a range of bytes: its offset, and how many bytes it has
pub record Range : Type 0 where
  pub at : ℕ
  pub count : ℕ

-- FF in place of this many bytes from an offset on
abbrev pub blank : ℕ → ℕ → List ℕ → List ℕ
blank at count [] = []
blank zero zero (b ∷ bytes) = b ∷ bytes
blank zero (suc count) (b ∷ bytes) = 255 ∷ blank zero count bytes
blank (suc at) count (b ∷ bytes) = b ∷ blank at count bytes

-- FF in place of each byte of these ranges
abbrev pub blanked : List Range → List ℕ → List ℕ
blanked [] bytes = bytes
blanked (range ∷ ranges) bytes = blanked ranges (blank range.at range.count bytes)

-- what was written
abbrev pub ranges : List Written → List Range
ranges = map (λ (w : Written). record { at = w.at; count = w.count })

-- the file with these bytes at this offset
abbrev pub overwritten : List ℕ → ℕ → List ℕ → List ℕ
overwritten file at bytes = take at file ++ bytes ++ drop (at + length bytes) file

-- The crash images of a file with these bytes: those of the last sync; all of them; or all, with FF in place of each
-- that was written since.
abbrev pub left_by : Image → Moment → List ℕ → List ℕ
left_by image.Synced moment bytes = moment.synced
left_by image.Written moment bytes = bytes
left_by image.Blanked moment bytes = blanked (ranges moment.writes) bytes
