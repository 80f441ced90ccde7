-- The texts of questions: a kind, and what the kind calls for.
use Rattle.std.specs.Prelude.{◌≡◌, ◌≤◌, ℕ, List, [], ◌∷◌, length, Option, Some, None, Result, Ok, Err, ◌==◌}
use Rattle.std.specs.Int.{w8}
use Rattle.depot_base.specs.declared.fault.DecodeError.{DecodeError}
use Rattle.depot_base.specs.declared.fault.DecodeError.TheVariants as errors
use Rattle.depot_base.specs.declared.limits.TheConstants.{MOST_KEY}
use Rattle.depot_base.specs.Closed.{Closed, closing, before, closed_variant, closed_choose}
use Rattle.depot_base.specs.Format.{Format, number, bytes_of, field, made_of_fields, choose}
use Rattle.depot_base.specs.Parts.{digest}
use Rattle.depot_questions.specs.declared.question.Question.{Question}
use Rattle.depot_questions.specs.declared.question.Question.TheVariants as question
use Rattle.depot_requests.specs.ChangeTexts.{key_text, ids_text}
use Rattle.depot_requests.specs.RequestTexts.{value_read}
use Rattle.depot_requests.specs.TellingTexts.{any_u32_text}

-- ---- what each kind of question asks

abbrev pub as_convictions : Question → Option ℕ
as_convictions (question.Convictions from) = Some from
as_convictions q = None

abbrev pub as_keys : Question → Option (Option (List ℕ))
as_keys (question.Keys after) = Some after
as_keys q = None

abbrev pub as_latest : Question → Option (List ℕ)
as_latest (question.Latest key) = Some key
as_latest q = None

abbrev pub as_update_asked : Question → Option (List ℕ)
as_update_asked (question.Update id) = Some id
as_update_asked q = None

abbrev pub as_accepted : Question → Option (List (List ℕ))
as_accepted (question.Accepted ids) = Some ids
as_accepted q = None

abbrev pub as_updates : Question → Option ℕ
as_updates (question.Updates from) = Some from
as_updates q = None

-- ---- the text after the kind

-- a key preceded by its length, or none where that is 0
abbrev pub key_behind : Option (List ℕ) → List ℕ
key_behind None = []
key_behind (Some key) = key

unfoldable pub start_text : Format (Option (List ℕ))
start_text =
    field (number w8 0 MOST_KEY) (λ after. length (key_behind after)) λ size.
    choose (size == 0) (made_of_fields None)
    (field (bytes_of size) key_behind λ key. made_of_fields (Some key))

abbrev pub question_kind : Question → ℕ
question_kind question.Status = 16
question_kind (question.Convictions from) = 17
question_kind (question.Keys after) = 18
question_kind (question.Latest key) = 19
question_kind (question.Update id) = 20
question_kind (question.Accepted ids) = 21
question_kind (question.Updates from) = 22

-- what follows a kind
unfoldable pub question_behind : ℕ → Closed Question
question_behind kind =
    closed_choose (kind == 16) (closing (made_of_fields question.Status))
    (closed_choose (kind == 17) (closed_variant (λ from. question.Convictions from) as_convictions (closing any_u32_text))
    (closed_choose (kind == 18) (closed_variant (λ after. question.Keys after) as_keys (closing start_text))
    (closed_choose (kind == 19) (closed_variant (λ key. question.Latest key) as_latest (closing key_text))
    (closed_choose (kind == 20) (closed_variant (λ id. question.Update id) as_update_asked (closing digest))
    (closed_choose (kind == 21) (closed_variant (λ ids. question.Accepted ids) as_accepted (closing ids_text))
    (closed_variant (λ from. question.Updates from) as_updates (closing any_u32_text)))))))

-- a kind, and what follows it
unfoldable pub question_text : Closed Question
question_text = before (number w8 16 22) question_kind question_behind

-- Its text begins with its kind, which is one of these.
pub record BeginsWithKind (q : Question) : Type 0 where
  pub rest : List ℕ
  pub is : question_text.text q ≡ question_kind q ∷ rest
  pub least : 16 ≤ question_kind q
  pub most : question_kind q ≤ 22

-- ---- the question in a body

-- the question whose text this is, if there is one
abbrev pub question_of_body : List ℕ → Option Question
question_of_body body = value_read (question_text.read (record { at = 0; rest = body }))

-- What a reader answers: the question in the body, or that there is none, unless memory ran out.
abbrev pub FindsQuestion : List ℕ → Result Question DecodeError → Type 0
FindsQuestion body (Ok q) = question_of_body body ≡ Some q
FindsQuestion body (Err errors.Memory) = Unit {0}
FindsQuestion body (Err (errors.IllFormed at)) = question_of_body body ≡ None
