-- A text that asks something has no fault.
use Rattle.std.proofs.Common.{◌≡◌, ℕ, Bool, true, false, List, Option, None, is_some, option_map, sym, ap, ◌∙◌, if◌then◌else◌}
use Rattle.depot_gossip.proofs.SendTextLaws.{sending_text_lawful}
use Rattle.depot_gossip.specs.SendTexts.{sending_of_body}
use Rattle.depot_gossip.specs.declared.send_request.SendRequest.{SendRequest}
use Rattle.depot_questions.proofs.QuestionLaws.{question_text_lawful}
use Rattle.depot_questions.specs.QuestionTexts.{question_of_body}
use Rattle.depot_questions.specs.declared.question.Question.{Question}
use Rattle.depot_requests.proofs.ExportLaws.{export_text_lawful}
use Rattle.depot_requests.proofs.RequestLaws.{request_text_lawful}
use Rattle.depot_requests.specs.ExportTexts.{export_of_body}
use Rattle.depot_requests.specs.RequestTexts.{request_of_body, value_read}
use Rattle.depot_requests.specs.declared.request.Request.{Request}
use Rattle.depot_service.specs.Bodies.{IsAskedFault, IsFaultBy, begins_export, begins_question, begins_sending, is_asked}
use Rattle.depot_service.specs.declared.asked.Asked.{Asked}
use Rattle.depot_service.specs.declared.asked.Asked.TheVariants as asked

-- of a sort
abbrev asked_by_sort : (is_question is_sending is_export : Bool) → List ℕ → Option Asked
asked_by_sort is_question is_sending is_export body =
    if is_question then option_map (λ q. asked.Question q) (question_of_body body)
    else (if is_sending then option_map (λ s. asked.Sending s) (sending_of_body body)
    else (if is_export then option_map (λ _. asked.Export) (export_of_body body)
    else option_map (λ r. asked.Request r) (request_of_body body)))

good_by_sort : (is_question is_sending is_export : Bool) (body : List ℕ) (at : ℕ) → is_some (asked_by_sort is_question is_sending is_export body) ≡ true → IsFaultBy is_question is_sending is_export body at → ⊥
good_by_sort true s x body at asks faulty =
    let none : question_of_body body ≡ None = ap value_read (question_text_lawful.stops 0 body at faulty) in
    let wrong : false ≡ true = sym (ap (λ (o : Option Question). is_some (option_map (λ q. asked.Question q) o)) none) ∙ asks in
    absurd cc
good_by_sort false true x body at asks faulty =
    let none : sending_of_body body ≡ None = ap value_read (sending_text_lawful.stops 0 body at faulty) in
    let wrong : false ≡ true = sym (ap (λ (o : Option SendRequest). is_some (option_map (λ s. asked.Sending s) o)) none) ∙ asks in
    absurd cc
good_by_sort false false true body at asks faulty =
    let none : export_of_body body ≡ None = ap value_read (export_text_lawful.stops 0 body at faulty) in
    let wrong : false ≡ true = sym (ap (λ (o : Option (Unit {0})). is_some (option_map (λ _. asked.Export) o)) none) ∙ asks in
    absurd cc
good_by_sort false false false body at asks faulty =
    let none : request_of_body body ≡ None = ap value_read (request_text_lawful.stops 0 body at faulty) in
    let wrong : false ≡ true = sym (ap (λ (o : Option Request). is_some (option_map (λ r. asked.Request r) o)) none) ∙ asks in
    absurd cc

pub no_fault : (body : List ℕ) (at : ℕ) → is_asked body ≡ true → IsAskedFault body at → ⊥
no_fault body at asks faulty = good_by_sort (begins_question body) (begins_sending body) (begins_export body) body at asks faulty
