-- What a reader of a text returns.
use Rattle.std.specs.Prelude.{◌≡◌, ℕ, ◌+◌, ◌^◌, ◌<◌, ◌≤◌, ◌⊎◌, List, ◌++◌, length, take, Option, Some, None, Result, Ok, Err}
use Rattle.std.specs.Int.{Width, byte_len, from_be_bytes}
use Rattle.depot_base.specs.Cursor.{Cursor, advanced}
use Rattle.depot_base.specs.Format.{Format, FirstFault}
use Rattle.depot_base.specs.Closed.{Closed}
use Rattle.depot_base.specs.declared.fault.Fault.{Fault}
use Rattle.depot_base.specs.declared.fault.Fault.TheVariants.{Memory, At}
use Rattle.depot_base.specs.declared.fault.DecodeError.{DecodeError}
use Rattle.depot_base.specs.declared.fault.DecodeError.TheVariants as errors

-- that number of this width, or nothing where too few bytes are left
abbrev pub TakesNumber : Width → Cursor → Option ℕ → Cursor → Type 0
TakesNumber w old (Some n) new = (byte_len w ≤ length old.rest) × (n ≡ from_be_bytes w (take (byte_len w) old.rest)) × (new ≡ advanced (byte_len w) old)
TakesNumber w old None new = (length old.rest < byte_len w) × (new ≡ old)

-- the next n bytes, or nothing where fewer are left
abbrev pub TakesBytes : ℕ → Cursor → Option (List ℕ) → Cursor → Type 0
TakesBytes n old (Some bytes) new = (n ≤ length old.rest) × (bytes ≡ take n old.rest) × (new ≡ advanced n old)
TakesBytes n old None new = (length old.rest < n) × (new ≡ old)

-- the next n bytes as a text whose offsets continue, or nothing where fewer are left
abbrev pub TakesPart : ℕ → Cursor → Option Cursor → Cursor → Type 0
TakesPart n old (Some part) new = (n ≤ length old.rest) × (part ≡ record { at = old.at; rest = take n old.rest }) × (new ≡ advanced n old)
TakesPart n old None new = (length old.rest < n) × (new ≡ old)

-- The reader went on in its text, or stayed: no byte is lost at its end.
pub record GoesOn (old new : Cursor) : Type 0 where
  pub onward : old.at ≤ new.at
  pub end : new.at + length new.rest ≡ old.at + length old.rest

-- what was there is followed by some first bytes of the text, maybe none or all
abbrev pub AddsFrontOf : List ℕ → List ℕ → List ℕ → Type 0
AddsFrontOf old text new = (n : ℕ) × (new ≡ old ++ take n text)

-- What a function returned, as view sees it, is what reading gives, unless memory ran out.
abbrev pub ReadsBy : {X V : Type 0} → (X → V) → Result X Fault → Cursor → Result (V × Cursor) ℕ → Type 0
ReadsBy view (Ok v) after read = read ≡ Ok (view v, after)
ReadsBy view (Err Memory) after read = Unit {0}
ReadsBy view (Err (At at)) after read = read ≡ Err at

-- the same for the value itself
abbrev pub Reads : {V : Type 0} → Result V Fault → Cursor → Result (V × Cursor) ℕ → Type 0
Reads (Ok v) after read = read ≡ Ok (v, after)
Reads (Err Memory) after read = Unit {0}
Reads (Err (At at)) after read = read ≡ Err at

-- the same where the whole text was read
abbrev pub Gives : {V : Type 0} → Result V Fault → Result V ℕ → Type 0
Gives (Ok v) read = read ≡ Ok v
Gives (Err Memory) read = Unit {0}
Gives (Err (At at)) read = read ≡ Err at

-- a fault is early enough to be reported as a u32
abbrev pub IsEarly : {V : Type 0} → Result V Fault → Type 0
IsEarly (Ok v) = Unit {0}
IsEarly (Err Memory) = Unit {0}
IsEarly (Err (At at)) = at < 2 ^ 32

-- the reader's answer as the caller gets it
abbrev pub decoded : {V : Type 0} → Result V Fault → Result V DecodeError
decoded (Ok v) = Ok v
decoded (Err Memory) = Err errors.Memory
decoded (Err (At at)) = Err (errors.IllFormed at)

-- the answer is this, or memory ran out
abbrev pub UnlessMemory : {V : Type 0} → Result V DecodeError → Result V DecodeError → Type 0
UnlessMemory result answer = (result ≡ Err errors.Memory) ⊎ (result ≡ answer)

-- What decoding a text returns. Memory may come in place of each answer.
pub record Decodes {V : Type 0} (f : Format V) (text : List ℕ) (result : Result V DecodeError) : Type 0 where
  -- what is given is a value with this text, and a value with this text is given
  pub found : (v : V) → result ≡ Ok v → f.fits v × (text ≡ f.text v)
  pub only : (v : V) → f.fits v → text ≡ f.text v → UnlessMemory result (Ok v)
  -- the offset is that of the first fault, and a fault is found
  pub ill_formed : (at : ℕ) → result ≡ Err (errors.IllFormed at) → FirstFault f text at
  pub first : (at : ℕ) → FirstFault f text at → UnlessMemory result (Err (errors.IllFormed at))

-- The same for a format whose last field may take all that is left.
pub record DecodesClosed {V : Type 0} (f : Closed V) (text : List ℕ) (result : Result V DecodeError) : Type 0 where
  -- what is given is a value with this text, and a value with this text is given
  pub found : (v : V) → result ≡ Ok v → f.fits v × (text ≡ f.text v)
  pub only : (v : V) → f.fits v → text ≡ f.text v → UnlessMemory result (Ok v)
  -- the offset is that of the first fault, and a fault is found
  pub ill_formed : (at : ℕ) → result ≡ Err (errors.IllFormed at) → f.fault text at
  pub first : (at : ℕ) → f.fault text at → UnlessMemory result (Err (errors.IllFormed at))

-- No text of a value is a prefix of another value's text.
abbrev pub IsPrefixFree : {V : Type 0} → Format V → Type 0
IsPrefixFree {V} f = (v w : V) (x y : List ℕ) → f.fits v → f.fits w → f.text v ++ x ≡ f.text w ++ y → (v ≡ w) × (x ≡ y)

-- Each text is that of one value, or goes wrong at one place.
pub record IsReadInOneWay {V : Type 0} (f : Format V) : Type 0 where
  pub value : (v w : V) → f.fits v → f.fits w → f.text v ≡ f.text w → v ≡ w
  pub good : (v : V) (at : ℕ) → f.fits v → FirstFault f (f.text v) at → ⊥
  pub place : (text : List ℕ) (a b : ℕ) → FirstFault f text a → FirstFault f text b → a ≡ b

-- The same for a format whose last field may take all that is left.
pub record IsClosedReadInOneWay {V : Type 0} (f : Closed V) : Type 0 where
  pub value : (v w : V) → f.fits v → f.fits w → f.text v ≡ f.text w → v ≡ w
  pub good : (v : V) (at : ℕ) → f.fits v → f.fault (f.text v) at → ⊥
  pub place : (text : List ℕ) (a b : ℕ) → f.fault text a → f.fault text b → a ≡ b
