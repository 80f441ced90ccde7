-- What names no update.
use Rattle.std.specs.Prelude.{ℕ, List, replicate}

-- 32 zero bytes
abbrev pub zeros : List ℕ
zeros = replicate 32 0
