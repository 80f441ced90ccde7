-- Records that are appended together, as one group.
--
-- A group is written as one block after the closed gate. In it the gates of the records are open, but for the first. To
-- open this one gate opens all.
use Rattle.std.specs.Prelude.{ℕ, ◌+◌, List, [], ◌∷◌, ◌++◌, drop}
use Rattle.depot_base.specs.Calls.{Call, syncs, writes_at}
use Rattle.depot_base.specs.File.{blocks, framed}

-- What a group's append writes after the closed gate: the length and the body of the first record, the others after
-- open gates, and a closed gate.
abbrev pub group_block : List (List ℕ) → List ℕ
group_block [] = []
group_block (body ∷ bodies) = framed body ++ (blocks bodies ++ 0 ∷ [])

-- a block is written after the closed gate of this offset and synced, and then the gate is opened and synced
abbrev pub calls_to_open : ℕ → List ℕ → List Call
calls_to_open gate block = writes_at (gate + 1) block ∷ syncs ∷ writes_at gate (1 ∷ []) ∷ syncs ∷ []

-- The records of these bytes are appended at the closed gate of this offset, as one group: all of them are written after
-- it but for the first gate, which is open in them, and a closed gate follows.
abbrev pub calls_to_append_group : ℕ → List ℕ → List Call
calls_to_append_group gate bytes = calls_to_open gate (drop 1 bytes ++ 0 ∷ [])
