-- The calls on a disk, one after another.
--
-- The crash images depend on the call in which the stop comes, so these words say which calls are made, and in which
-- order.
use Rattle.std.specs.Prelude.{◌≡◌, ℕ, ◌+◌, List, [], ◌∷◌, ◌++◌, length, map, min, Bool, true, false, nat_le, if◌then◌else◌}
use Rattle.depot_base.specs.File.{closed_block}
use Rattle.depot_base.specs.declared.limits.TheConstants.{MOST_JOURNAL}

-- a call on a disk: it asks for the file's length, reads a number of bytes at an offset, writes bytes at an offset, or
-- syncs
pub data Call : Type 0 where
  asks_length : Call
  reads_at : ℕ → ℕ → Call
  writes_at : ℕ → List ℕ → Call
  syncs : Call

-- a call that was made, and whether it failed
pub record Made : Type 0 where
  pub call : Call
  pub failed : Bool

-- these calls were made, and none of them failed
abbrev pub made : List Call → List Made
made = map (λ (call : Call). record { call = call; failed = false })

-- the last of these calls failed
abbrev pub made_but_last : List Call → Call → List Made
made_but_last calls failing = made calls ++ record { call = failing; failed = true } ∷ []

-- Of these calls one failed. Those before it were made, and none after it.
pub record FailsAmong {D : Type 0} (after : D → List Made → D → Type 0) (old new : D) (calls : List Call) : Type 0 where
  pub before : List Call
  pub failing : Call
  pub rest : List Call
  pub parts : calls ≡ before ++ failing ∷ rest
  pub fails : after old (made_but_last before failing) new

-- a record is appended at the closed gate of this offset: its block is written after the gate and synced, then the gate
-- is opened and synced
abbrev pub calls_to_append : ℕ → List ℕ → List Call
calls_to_append gate body = writes_at (gate + 1) (closed_block body) ∷ syncs ∷ writes_at gate (1 ∷ []) ∷ syncs ∷ []

-- these records are appended, one after another
abbrev pub calls_to_append_all : ℕ → List (List ℕ) → List Call
calls_to_append_all gate [] = []
calls_to_append_all gate (body ∷ bodies) = calls_to_append gate body ++ calls_to_append_all (gate + (5 + length body)) bodies

-- a journal is started from this file: after a sync and a query of its length, its bytes are read as far as a journal
-- may reach, or, where there is at most one, a closed gate is written and synced
abbrev pub calls_to_start : List ℕ → List Call
calls_to_start file = syncs ∷ asks_length ∷ (if nat_le (length file) 1 then writes_at 0 (0 ∷ []) ∷ syncs ∷ [] else reads_at 0 (min (length file) MOST_JOURNAL) ∷ [])
