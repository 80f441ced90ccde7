-- What every crash image of the call has of a node's journal.
--
-- A stop leaves a crash image. The node is started again from the records of that file, so these are what has to last.
use Rattle.std.specs.Prelude.{◌≡◌, ℕ, List, [], ◌++◌, length, map, take, Bool, false}
use Rattle.depot_base.specs.Calls.{Call, calls_to_append_all}
use Rattle.depot_base.specs.File.{IsFileOf, blocks}
use Rattle.depot_base.specs.declared.record.Record.{Record}
use Rattle.depot_model.specs.texts.Records.{text_of_record}

-- the records of the file are these
abbrev pub HasRecords : List Record → List ℕ → Type 0
HasRecords J file = IsFileOf file (map text_of_record J)

-- the records of the file are these, and then a prefix of those that a call appends
pub record HasFront (J new : List Record) (file : List ℕ) : Type 0 where
  pub count : ℕ
  pub has : HasRecords (J ++ take count new) file

-- The records of the file are these. Nothing follows them, unless the disk failed: then more may, as the property of
-- every moment of a call says.
pub record HasAll (J : List Record) (stopped : Bool) (file : List ℕ) : Type 0 where
  pub more : List (List ℕ)
  pub has : IsFileOf file (map text_of_record J ++ more)
  pub none : stopped ≡ false → more ≡ []

-- each crash image now has all records of the node
abbrev pub LeavesAll : List Record → Bool → (List ℕ → Type 0) → Type 0
LeavesAll J stopped images = (file : List ℕ) → images file → HasAll J stopped file

-- the calls on the disk that append records to a journal
abbrev pub calls_to_record : List Record → List Record → List Call
calls_to_record J new = calls_to_append_all (length (blocks (map text_of_record J))) (map text_of_record new)
