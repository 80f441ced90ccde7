-- What the body of a message may ask.
use Rattle.std.specs.Prelude.{◌≡◌, ℕ, List, [], ◌∷◌, Bool, true, false, ◌&&◌, nat_le, is_some, Option, Some, None, option_map, Result, Ok, Err, if◌then◌else◌}
use Rattle.depot_base.specs.declared.fault.DecodeError.{DecodeError}
use Rattle.depot_base.specs.declared.fault.DecodeError.TheVariants as errors
use Rattle.depot_gossip.specs.SendTexts.{sending_of_body, sending_text}
use Rattle.depot_questions.specs.QuestionTexts.{question_of_body, question_text}
use Rattle.depot_requests.specs.ExportTexts.{export_of_body, export_text}
use Rattle.depot_requests.specs.RequestTexts.{request_of_body, request_text}
use Rattle.depot_requests.specs.declared.export_texts.TheConstants.{EXPORT_KIND}
use Rattle.depot_requests.specs.Requests.{IsRequest}
use Rattle.depot_service.specs.declared.asked.Asked.{Asked}
use Rattle.depot_service.specs.declared.asked.Asked.TheVariants as asked

-- ---- which sort

-- the first byte is in a range
abbrev pub begins_within : ℕ → ℕ → List ℕ → Bool
begins_within least most [] = false
begins_within least most (kind ∷ fields) = nat_le least kind && nat_le kind most

-- The kinds of questions are 16 to 22, those of requests to send 32 and 33, and that of an export is 48. Any other body
-- has to be a request's.
abbrev pub begins_question : List ℕ → Bool
begins_question body = begins_within 16 22 body

abbrev pub begins_sending : List ℕ → Bool
begins_sending body = begins_within 32 33 body

abbrev pub begins_export : List ℕ → Bool
begins_export body = begins_within EXPORT_KIND EXPORT_KIND body

-- ---- what is asked

-- What a body asks, if it is such a text: its first byte says of which sort it has to be.
abbrev pub asked_of_body : List ℕ → Option Asked
asked_of_body body =
    if begins_question body then option_map (λ q. asked.Question q) (question_of_body body)
    else (if begins_sending body then option_map (λ s. asked.Sending s) (sending_of_body body)
    else (if begins_export body then option_map (λ _. asked.Export) (export_of_body body)
    else option_map (λ r. asked.Request r) (request_of_body body)))

-- something is asked by it
abbrev pub is_asked : List ℕ → Bool
is_asked body = is_some (asked_of_body body)

-- as a text of this sort the bytes have their first fault at this offset
abbrev pub IsFaultBy : (is_question is_sending is_export : Bool) → List ℕ → ℕ → Type 0
IsFaultBy true is_sending is_export body at = question_text.fault body at
IsFaultBy false true is_export body at = sending_text.fault body at
IsFaultBy false false true body at = export_text.fault body at
IsFaultBy false false false body at = request_text.fault body at

-- as a text of its sort it first goes wrong there
abbrev pub IsAskedFault : List ℕ → ℕ → Type 0
IsAskedFault body at = IsFaultBy (begins_question body) (begins_sending body) (begins_export body) body at

-- a node may be asked for this
abbrev pub MayBeAsked : Asked → Type 0
MayBeAsked (asked.Request r) = IsRequest r
MayBeAsked other = Unit {0}

-- What a reader answers: what is asked, or where the body's first fault is, unless memory ran out.
abbrev pub FindsAsked : List ℕ → Result Asked DecodeError → Type 0
FindsAsked body (Ok a) = asked_of_body body ≡ Some a
FindsAsked body (Err errors.Memory) = Unit {0}
FindsAsked body (Err (errors.IllFormed at)) = (asked_of_body body ≡ None) × IsAskedFault body at
