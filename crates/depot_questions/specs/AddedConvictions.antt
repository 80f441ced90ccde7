-- One conviction more of a page.
use Rattle.std.specs.Prelude.{◌≡◌, ℕ, ◌+◌, ◌<◌, List, [], ◌∷◌, ◌++◌, filter, nat_le, sum_by, Option, Some, None, Result, Ok, Err}
use Rattle.std.specs.List.{flat_map}
use Rattle.depot_base.specs.declared.memory.Memory.{Memory}
use Rattle.depot_base.specs.declared.record.Record.{Record}
use Rattle.depot_questions.specs.Answers.{bytes_of_conviction, conviction_told}
use Rattle.depot_questions.specs.declared.question_answer.ConvictionAt.{ConvictionAt}

-- the convictions by records of these places, from one on
abbrev pub convictions_of : List Record → ℕ → List ℕ → List ConvictionAt
convictions_of J from places = flat_map (conviction_told J) (filter (nat_le from) places)

-- there is no room for the conviction by the record of a place
pub record HasNoSpace (J : List Record) (from place room : ℕ) : Type 0 where
  pub conviction : ConvictionAt
  pub is : convictions_of J from (place ∷ []) ≡ conviction ∷ []
  pub more : room < bytes_of_conviction conviction

-- The conviction by the record of a place, if that is in range, was to be added with so much room: so much is left, or
-- there wasn't enough.
abbrev pub AddsConviction : List Record → ℕ → ℕ → List ConvictionAt → ℕ → Result (Option ℕ) Memory → List ConvictionAt → Type 0
AddsConviction J from place old room (Ok (Some left)) new = (new ≡ old ++ convictions_of J from (place ∷ [])) × (room ≡ left + sum_by bytes_of_conviction (convictions_of J from (place ∷ [])))
AddsConviction J from place old room (Ok None) new = (new ≡ old) × HasNoSpace J from place room
AddsConviction J from place old room (Err memory) new = Unit {0}
