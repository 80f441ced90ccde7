-- What a source that reads ahead has given.
use Rattle.std.specs.Prelude.{◌≡◌, ◌≤◌, ◌-◌, ℕ, List, ◌++◌, length, take, drop, Option, Some, None, Result, Ok, Err}
use Rattle.std.specs.Coded.{×_prop, le_prop, Coded-set, coded_list, coded_ℕ}
use Rattle.depot_base.specs.declared.memory.Memory.{Memory}
use Rattle.depot_source.specs.Messages.{HasHeard, IsMessage, Message, text_of_message}

-- The bytes that were read but for those of the last piece that weren't given yet, of which this many were.
abbrev pub given_but : List ℕ → List ℕ → ℕ → List ℕ
given_but read piece at = take (length read - (length piece - at)) read

-- the rest of the piece is the end of what was read
abbrev pub IsReadAhead : List ℕ → List ℕ → ℕ → Type 0
IsReadAhead read piece at = (at ≤ length piece) × (read ≡ given_but read piece at ++ drop at piece)

pub IsReadAhead-prop : (read piece : List ℕ) (at : ℕ) → IsProp (IsReadAhead read piece at)
IsReadAhead-prop read piece at = ×_prop le_prop (Coded-set (coded_list coded_ℕ) _ _)

-- the bytes begin with a message that has this body
pub record BeginsWithMessage (bytes body : List ℕ) : Type 0 where
  pub message : Message
  pub is : IsMessage message
  pub same : message.body ≡ body
  pub rest : List ℕ
  pub parts : bytes ≡ text_of_message message ++ rest

-- What is taken of the bytes ahead: a message, or nothing; without memory nothing.
abbrev pub TakesWaiting : List ℕ → List ℕ → Result (Option (List ℕ)) Memory → Type 0
TakesWaiting before after (Ok (Some body)) = HasHeard before after body
TakesWaiting before after (Ok None) = after ≡ before
TakesWaiting before after (Err e) = after ≡ before
