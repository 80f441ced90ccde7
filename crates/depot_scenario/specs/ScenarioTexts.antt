-- What events that no node takes part in give their labels.
use Rattle.std.specs.Prelude.{◌≡◌, ℕ, List, [], ◌∷◌, ◌++◌, if◌then◌else◌}
use Rattle.depot_model.specs.exchange.Bundle.{value_frame}
use Rattle.depot_model.specs.texts.Frames.{text_of_frame}
use Rattle.depot_model.specs.lists.Lists.{is_among}
use Rattle.depot_world.specs.FaultySigning as signing
use Rattle.depot_scenario.specs.declared.texts.Text.{Text}

-- the frames of values after those of others: one for each value that none before it equals
abbrev pub frames_behind : List (List ℕ) → List (List ℕ) → List ℕ
frames_behind before [] = []
frames_behind before (v ∷ vs) = (if is_among v before then [] else text_of_frame (value_frame v)) ++ frames_behind (before ++ v ∷ []) vs

-- bytes, signed statement and answer are these, and so is whether the bytes are plain
pub record IsText (made : Text) (t : signing.Text) : Type 0 where
  pub bytes_are : made.bytes ≡ t.bytes
  pub signed_is : made.signed ≡ t.signed
  pub plain_is : made.plain ≡ t.plain
  pub answer_is : made.answer ≡ t.answer
