-- The texts of requests: a kind, and what the kind calls for.
use Rattle.std.specs.Prelude.{◌≡◌, ℕ, ◌-◌, List, Option, Some, None, Result, Ok, Err, Bool, is_some, ◌==◌}
use Rattle.std.specs.Int.{w8, w32}
use Rattle.depot_base.specs.declared.fault.DecodeError.{DecodeError}
use Rattle.depot_base.specs.declared.fault.DecodeError.TheVariants as errors
use Rattle.depot_base.specs.declared.write.Change.{Change}
use Rattle.depot_base.specs.Closed.{Closed, closing, rest_of, before, closed_variant, closed_choose}
use Rattle.depot_base.specs.Format.{Format, number, field, made_of_fields}
use Rattle.depot_base.specs.Parts.{digest}
use Rattle.depot_model.specs.lists.Lists.{when}
use Rattle.depot_requests.specs.declared.request.Request.{Request}
use Rattle.depot_requests.specs.declared.request.Request.TheVariants as request
use Rattle.depot_source.specs.declared.hearing.TheConstants.{MOST_MESSAGE}
use Rattle.depot_requests.specs.ChangeTexts.{key_text, changes_text, ids_text}
use Rattle.depot_requests.specs.declared.request_reader.TheConstants.{STREAM_PIECE}

-- ---- what each kind of request asks

abbrev pub as_put : Request → Option (List Change)
as_put (request.Put changes) = Some changes
as_put r = None

abbrev pub as_get : Request → Option (List ℕ)
as_get (request.Get key) = Some key
as_get r = None

abbrev pub as_bundle : Request → Option (List ℕ)
as_bundle (request.Bundle hello) = Some hello
as_bundle r = None

-- a text has no size of pieces: only streams taken in pieces of 65,536 bytes have texts
abbrev pub as_take : Request → Option (List ℕ)
as_take (request.Take stream piece) = when (piece == STREAM_PIECE) stream
as_take r = None

abbrev pub as_receipt : Request → Option (List (List ℕ))
as_receipt (request.Receipt ids) = Some ids
as_receipt r = None

abbrev pub as_settled : Request → Option (List ℕ × ℕ)
as_settled (request.Settled id k) = Some (id, k)
as_settled r = None

abbrev pub as_sign : Request → Option (List ℕ)
as_sign (request.Sign text) = Some text
as_sign r = None

-- ---- the text after the kind

-- an id, and a number of nodes
unfoldable pub settled_text : Format (List ℕ × ℕ)
settled_text =
    field digest (λ s. s.0) λ id.
    field (number w32 0 4294967295) (λ s. s.1) λ k.
    made_of_fields (id, k)

abbrev pub request_kind : Request → ℕ
request_kind (request.Put changes) = 1
request_kind (request.Get key) = 2
request_kind request.Hello = 3
request_kind (request.Bundle hello) = 4
request_kind (request.Take stream piece) = 5
request_kind (request.Receipt ids) = 6
request_kind (request.Settled id k) = 7
request_kind request.Checkpoint = 8
request_kind (request.Sign text) = 9

-- what follows a kind; a hello, a stream and a checkpoint's text take the rest of a message
unfoldable pub asked_behind : ℕ → Closed Request
asked_behind kind =
    closed_choose (kind == 1) (closed_variant (λ cs. request.Put cs) as_put (closing changes_text))
    (closed_choose (kind == 2) (closed_variant (λ key. request.Get key) as_get (closing key_text))
    (closed_choose (kind == 3) (closing (made_of_fields request.Hello))
    (closed_choose (kind == 4) (closed_variant (λ hello. request.Bundle hello) as_bundle (rest_of (MOST_MESSAGE - 1)))
    (closed_choose (kind == 5) (closed_variant (λ stream. request.Take stream STREAM_PIECE) as_take (rest_of (MOST_MESSAGE - 1)))
    (closed_choose (kind == 6) (closed_variant (λ ids. request.Receipt ids) as_receipt (closing ids_text))
    (closed_choose (kind == 7) (closed_variant (λ s. request.Settled s.0 s.1) as_settled (closing settled_text))
    (closed_choose (kind == 8) (closing (made_of_fields request.Checkpoint))
    (closed_variant (λ text. request.Sign text) as_sign (rest_of (MOST_MESSAGE - 1))))))))))

-- a kind, and what follows it
unfoldable pub request_text : Closed Request
request_text = before (number w8 1 9) request_kind asked_behind

-- ---- the request in a body

abbrev pub value_read : {V : Type 0} → Result V ℕ → Option V
value_read (Ok v) = Some v
value_read (Err at) = None

-- the request whose text this is, if there is one
abbrev pub request_of_body : List ℕ → Option Request
request_of_body body = value_read (request_text.read (record { at = 0; rest = body }))

-- a body is a request's
abbrev pub is_request : List ℕ → Bool
is_request body = is_some (request_of_body body)

-- What a reader answers: the request in the body, or that there is none, unless memory ran out.
abbrev pub FindsRequest : List ℕ → Result Request DecodeError → Type 0
FindsRequest body (Ok r) = request_of_body body ≡ Some r
FindsRequest body (Err errors.Memory) = Unit {0}
FindsRequest body (Err (errors.IllFormed at)) = request_of_body body ≡ None
