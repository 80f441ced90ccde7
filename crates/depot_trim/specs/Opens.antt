-- What the text of a checkpoint is opened to by a node.
use Rattle.std.specs.Prelude.{◌≡◌, ℕ, List, Result, Ok, Err}
use Rattle.depot_base.specs.Format.{FirstFault}
use Rattle.depot_base.specs.declared.record.Record.{Record}
use Rattle.depot_model.specs.readers.Checkpoints.{Checkpoint, checkpoint, IsCheckpoint, text_of_checkpoint}
use Rattle.depot_model.specs.checks.Checks.{Setting}
use Rattle.depot_model.specs.readers.Opening.{ids_of, ill_at, of_roster, with_unknown, opened, opened_text}
use Rattle.depot_model.specs.texts.Texts.{hash_of_roster}
use Rattle.depot_trim.specs.declared.opening.OpenError.{OpenError}
use Rattle.depot_trim.specs.declared.opening.OpenError.TheVariants as failed

-- the checkpoint is of this other roster, and the node's is that one
abbrev pub IsOfOther : Setting → List Record → (text given mine : List ℕ) → Type 0
IsOfOther here J text given mine = (opened_text here J text ≡ of_roster given) × (mine ≡ hash_of_roster here.listed)

-- what a text is opened to, or why it isn't; `Memory` may replace each answer
abbrev pub Opens : Setting → List Record → List ℕ → Result Checkpoint OpenError → Type 0
Opens here J text (Ok c) = IsCheckpoint c × ((text ≡ text_of_checkpoint c) × (opened_text here J text ≡ opened (ids_of c)))
Opens here J text (Err failed.Memory) = Unit {0}
Opens here J text (Err (failed.IllFormed at)) = opened_text here J text ≡ ill_at at
Opens here J text (Err (failed.OtherRoster given mine)) = IsOfOther here J text given mine
Opens here J text (Err (failed.Unknown id)) = opened_text here J text ≡ with_unknown id

-- ---- on the way

-- what a text is read as, before anything is asked of the node
abbrev pub IsCheckpointRead : List ℕ → Result Checkpoint OpenError → Type 0
IsCheckpointRead text (Ok c) = IsCheckpoint c × (text ≡ text_of_checkpoint c)
IsCheckpointRead text (Err failed.Memory) = Unit {0}
IsCheckpointRead text (Err (failed.IllFormed at)) = FirstFault checkpoint text at
IsCheckpointRead text (Err e) = ⊥
