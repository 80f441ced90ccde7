-- Where a reader is in a text, and the bytes of a number.
use Rattle.std.specs.Prelude.{ℕ, List, ◌+◌, drop}
use Rattle.std.specs.Int.{Width, to_be_bytes}

-- how many bytes were taken, and the bytes that are left
pub record Cursor : Type 0 where
  pub at : ℕ
  pub rest : List ℕ

-- the cursor after n more bytes
abbrev pub advanced : ℕ → Cursor → Cursor
advanced n c = record { at = c.at + n; rest = drop n c.rest }

-- the bytes of a number of this width, the highest first
unfoldable pub numeral : Width → ℕ → List ℕ
numeral w n = to_be_bytes w n
