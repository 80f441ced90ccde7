-- Which request comes next over a source.
use Rattle.std.specs.Prelude.{◌≡◌, ◌<◌, ◌⊎◌, ℕ, List, ◌++◌, length, Bool, true, Option, Some, None, Result, Ok, Err}
use Rattle.depot_source.specs.Inputs.{Inputs}
use Rattle.depot_source.specs.Messages.{HasHeard, IsMessage, IsNoMessage, IsPartOfMessage, Message, text_of_message}
use Rattle.depot_source.specs.Pieces.{GivesMore}
use Rattle.depot_service.specs.Bodies.{IsAskedFault, asked_of_body}
use Rattle.depot_session.specs.declared.server_ending.ServeEnding.{ServeEnding}
use Rattle.depot_session.specs.declared.server_ending.ServeEnding.TheVariants as ending
use Rattle.depot_session.specs.declared.request_hearing.Heard.{Heard}

-- a message came, and its body is this request's text
pub record HasHeardRequest (input : Inputs) (heard : Heard) : Type 0 where
  pub message : Message
  pub is : IsMessage message
  pub asked : asked_of_body message.body ≡ Some heard.asked
  pub given : input.after ≡ input.before ++ text_of_message message
  pub long : heard.long ≡ length (text_of_message message)

-- What is wrong with what came: it is no message, or its body is no request's text, with its first fault there.
abbrev pub NoRequestCame : Bool → List ℕ → ℕ → Type 0
NoRequestCame over behind within =
    (IsNoMessage over behind × (within ≡ 0)) ⊎ ((m : Message) × (IsMessage m × (IsAskedFault m.body within × (behind ≡ text_of_message m))))

-- The source failed within a message, or before it.
pub record FailsWithin (input : Inputs) : Type 0 where
  pub behind : List ℕ
  pub given : input.after ≡ input.before ++ behind
  pub part : IsPartOfMessage behind
  pub rose : input.faults_before < input.faults_after

-- What comes next: a message's body; the end, or, of a message that isn't the first of its group, none that waits; or
-- what came is none, or the source failed, or no memory was found. Its message begins at an offset.
abbrev pub HearsBody : Bool → Inputs → ℕ → Result (Option (List ℕ)) ServeEnding → Type 0
HearsBody first input place (Ok (Some body)) = HasHeard input.before input.after body
HearsBody first input place (Ok None) = (input.after ≡ input.before) × (first ≡ true → input.over ≡ true)
HearsBody first input place (Err ending.Memory) = GivesMore input.before input.after
HearsBody first input place (Err ending.Source) = FailsWithin input
HearsBody first input place (Err (ending.Input at within)) = (at ≡ place) × ((within ≡ 0) × ((behind : List ℕ) × ((input.after ≡ input.before ++ behind) × IsNoMessage input.over behind)))
HearsBody first input place (Err other) = ⊥

-- The same of what is asked: a request.
abbrev pub HearsRequest : Bool → Inputs → ℕ → Result (Option Heard) ServeEnding → Type 0
HearsRequest first input place (Ok (Some heard)) = HasHeardRequest input heard
HearsRequest first input place (Ok None) = (input.after ≡ input.before) × (first ≡ true → input.over ≡ true)
HearsRequest first input place (Err ending.Memory) = GivesMore input.before input.after
HearsRequest first input place (Err ending.Source) = FailsWithin input
HearsRequest first input place (Err (ending.Input at within)) = (at ≡ place) × ((behind : List ℕ) × ((input.after ≡ input.before ++ behind) × NoRequestCame input.over behind within))
HearsRequest first input place (Err other) = ⊥
