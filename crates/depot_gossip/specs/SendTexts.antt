-- The texts of requests to send: a kind, and what the kind calls for.
use Rattle.std.specs.Prelude.{◌≡◌, ℕ, ◌-◌, List, Option, Some, None, Result, Ok, Err, Bool, true, false, ◌==◌, if◌then◌else◌}
use Rattle.std.specs.Int.{w8, w32}
use Rattle.depot_base.specs.declared.fault.DecodeError.{DecodeError}
use Rattle.depot_base.specs.declared.fault.DecodeError.TheVariants as errors
use Rattle.depot_base.specs.declared.limits.TheConstants.{MOST_BUNDLE}
use Rattle.depot_base.specs.Closed.{Closed, before, closed_choose, closed_variant, closing, rest_of}
use Rattle.depot_base.specs.Format.{Format, field, made_of_fields, number}
use Rattle.depot_requests.specs.ClosedParts.{last_field}
use Rattle.depot_requests.specs.RequestTexts.{value_read}
use Rattle.depot_source.specs.declared.hearing.TheConstants.{MOST_MESSAGE}
use Rattle.depot_gossip.specs.declared.bounds.Bounds.{Bounds}
use Rattle.depot_gossip.specs.declared.send_request.SendRequest.{SendRequest}
use Rattle.depot_gossip.specs.declared.send_request.SendRequest.TheVariants as request

-- ---- bounds

-- a number of vouchers; 4,294,967,295 says any
abbrev pub vouchers_told : ℕ → Option ℕ
vouchers_told n = if n == 4294967295 then None else Some n

-- and how it is reported
abbrev pub vouchers_number : Option ℕ → ℕ
vouchers_number None = 4294967295
vouchers_number (Some n) = n

abbrev pub own_flag : Bool → ℕ
own_flag true = 1
own_flag false = 0

-- bounds, 9 bytes: most bytes, most vouchers, whether only the node's own updates are sent
unfoldable pub bounds_text : Format Bounds
bounds_text =
    field (number w32 1 MOST_BUNDLE) (λ b. b.bytes) λ bytes.
    field (number w32 0 4294967295) (λ b. vouchers_number b.vouchers) λ vouchers.
    field (number w8 0 1) (λ b. own_flag b.own) λ own.
    made_of_fields (record { bytes = bytes; vouchers = vouchers_told vouchers; own = own == 1 })

-- ---- what is asked

-- bounds, and the bytes of a hello, which take the rest of a message
unfoldable pub bounded_text : Closed (Bounds × List ℕ)
bounded_text = before bounds_text (λ p. p.0) (λ bounds. last_field (λ hello. (bounds, hello)) (λ p. p.1) (rest_of (MOST_MESSAGE - 10)))

abbrev pub as_bounded : SendRequest → Option (Bounds × List ℕ)
as_bounded request.FarHello = None
as_bounded (request.Bounded hello bounds) = Some (bounds, hello)

abbrev pub send_kind : SendRequest → ℕ
send_kind request.FarHello = 32
send_kind (request.Bounded hello bounds) = 33

-- what follows a kind
unfoldable pub sent_behind : ℕ → Closed SendRequest
sent_behind kind = closed_choose (kind == 32) (closing (made_of_fields request.FarHello)) (closed_variant (λ p. request.Bounded p.1 p.0) as_bounded bounded_text)

-- a kind, and what follows it
unfoldable pub sending_text : Closed SendRequest
sending_text = before (number w8 32 33) send_kind sent_behind

-- what a body asks for, if it is such a text
abbrev pub sending_of_body : List ℕ → Option SendRequest
sending_of_body body = value_read (sending_text.read (record { at = 0; rest = body }))

-- What a reader answers: what the body asks for, or that it is no such text, unless memory ran out.
abbrev pub FindsSending : List ℕ → Result SendRequest DecodeError → Type 0
FindsSending body (Ok r) = sending_of_body body ≡ Some r
FindsSending body (Err errors.Memory) = Unit {0}
FindsSending body (Err (errors.IllFormed at)) = sending_of_body body ≡ None
