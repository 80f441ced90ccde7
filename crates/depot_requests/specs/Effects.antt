-- The outcome of an operation at a correct node of a world.
use Rattle.std.specs.Prelude.{ℕ, ◌*◌, List, [], ◌∷◌, ◌++◌, length}
use Rattle.std.specs.List.{flat_map}
use Rattle.depot_base.specs.declared.record.Record.{Record}
use Rattle.depot_base.specs.Writes.{one_change}
use Rattle.depot_base.specs.declared.write.Change.{Change}
use Rattle.depot_model.specs.readers.Checkpoints.{checkpoint_key}
use Rattle.depot_model.specs.worlds.World.{Read}
use Rattle.depot_model.specs.journals.ShownWrites.{shown_of}

-- An operation without a crash: the journal and the reads after it, how many disk calls it makes, what is printed after
-- the arrow and on lines of their own, and the bytes that it hands out.
pub record Effect : Type 0 where
  pub journal : List Record
  pub reads : List Read
  pub calls : ℕ
  pub answer : List ℕ
  pub behind : List (List ℕ)
  pub bytes : List ℕ

-- appending a record takes four calls: its body is written, synced, its gate is written, synced
abbrev pub calls_for_records : ℕ → ℕ
calls_for_records records = 4 * records

-- a line with its LF
abbrev pub ended : List ℕ → List ℕ
ended line = line ++ 10 ∷ []

-- what is printed from the arrow on: the answer, and the lines after it
abbrev pub lines_after_arrow : List ℕ → List (List ℕ) → List ℕ
lines_after_arrow answer behind = ended answer ++ flat_map ended behind

-- a read of a key at the end of a journal
abbrev pub read_at_end : List Record → List ℕ → Read
read_at_end J key = record { at = length J; key = key; answer = shown_of J key }

-- a checkpoint's text is put under its key
abbrev pub checkpoint_changes : List ℕ → List Change
checkpoint_changes text = one_change (checkpoint_key text) text
