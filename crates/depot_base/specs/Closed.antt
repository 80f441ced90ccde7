-- Formats of whole texts, whose last field may take all that is left. So one text of such a format may be a prefix of
-- another.
use Rattle.std.specs.Prelude.{◌≡◌, ℕ, ◌+◌, ◌<◌, ◌≤◌, ◌⊎◌, Bool, true, false, List, [], ◌++◌, length, Option, Result, Ok, Err, nat_lt, if◌then◌else◌}
use Rattle.std.specs.Option.{option_map_or}
use Rattle.depot_base.specs.Cursor.{Cursor}
use Rattle.depot_base.specs.Format.{◌>>=◌, Format, whole, FirstFault, HasPart}

pub record Closed (V : Type 0) : Type 1 where
  -- which values have a text
  pub fits : V → Type 0
  -- that text
  pub text : V → List ℕ
  -- the first fault of these bytes starts after this many of them
  pub fault : List ℕ → ℕ → Type 0
  -- what a reader gets from all that is left, or the offset of the fault
  pub read : Cursor → Result V ℕ

-- a format with nothing after it
abbrev pub closing : {V : Type 0} → Format V → Closed V
closing f = record { fits = f.fits; text = f.text; fault = FirstFault f; read = whole f }

-- all that is left, this many bytes at most
unfoldable pub rest_of : ℕ → Closed (List ℕ)
rest_of high = record {
  fits = λ v. length v ≤ high;
  text = λ v. v;
  fault = λ bytes at. (high < length bytes) × (at ≡ high);
  read = λ c. if nat_lt high (length c.rest) then Err (c.at + high) else Ok c.rest;
}

-- A good field comes first, and what takes the rest goes wrong.
pub record ClosedLater {A V : Type 0} (first : Format A) (more : A → Closed V) (bytes : List ℕ) (at : ℕ) : Type 0 where
  pub value : A
  pub rest : List ℕ
  pub later : ℕ
  pub fits : first.fits value
  pub parts : bytes ≡ first.text value ++ rest
  pub fault : (more value).fault rest later
  pub place : at ≡ length (first.text value) + later

-- a field, which is a part of the value, and then what takes the rest
abbrev pub before : {A V : Type 0} → Format A → (V → A) → (A → Closed V) → Closed V
before first part more = record {
  fits = λ v. first.fits (part v) × (more (part v)).fits v;
  text = λ v. first.text (part v) ++ (more (part v)).text v;
  fault = λ bytes at. first.fault bytes at ⊎ ClosedLater first more bytes at;
  read = λ c. first.read c >>= λ x. (more x.0).read x.1;
}

-- one of several kinds of value: made from its part, and the part of a value where it is of this kind
abbrev pub closed_variant : {A V : Type 0} → (A → V) → (V → Option A) → Closed A → Closed V
closed_variant make part f = record {
  fits = λ v. HasPart f.fits (part v);
  text = λ v. option_map_or f.text (part v) [];
  fault = f.fault;
  read = λ c. f.read c >>= λ x. Ok (make x);
}

-- the first format where the test holds, else the second
abbrev pub closed_choose : {V : Type 0} → Bool → Closed V → Closed V → Closed V
closed_choose true f g = f
closed_choose false f g = g
