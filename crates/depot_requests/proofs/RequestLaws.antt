-- The text of a request is lawful.
use Rattle.std.proofs.Common.{◌≡◌, ℕ, zero, suc, ◌-◌, ◌≤◌, Bool, true, false, eqb, List, Option, Some, None, Result, Ok, Err, refl, sym, ap, subst, ◌∙◌, arith}
use Rattle.std.specs.Int.{w8, w32}
use Rattle.std.specs.Prelude.{IfOk}
use Rattle.std.proofs.lemmas.Bool.{eqb-true}
use Rattle.depot_base.specs.Closed.{closing, rest_of}
use Rattle.depot_base.specs.Format.{HasPart, made_of_fields, number}
use Rattle.depot_base.specs.Reading.{Gives, IsClosedReadInOneWay, decoded}
use Rattle.depot_base.specs.declared.fault.Fault.{Fault}
use Rattle.depot_base.specs.declared.fault.Fault.TheVariants.{Memory, At}
use Rattle.depot_base.specs.declared.write.Change.{Change}
use Rattle.depot_base.proofs.ClosedLaws.{LawfulClosed, before_lawful, closed_choose_lawful, closed_variant_lawful, closing_lawful, rest_lawful, weaken_closed}
use Rattle.depot_base.proofs.Combined.{field_lawful, made_lawful}
use Rattle.depot_base.proofs.Decoding.{closed_in_one_way}
use Rattle.depot_base.proofs.FormatLaws.{IsBytes, Lawful, cursor}
use Rattle.depot_base.proofs.Numbers.{number_within}
use Rattle.depot_base.proofs.PartLaws.{digest_lawful, u32_lawful, u8_lawful}
use Rattle.depot_model.specs.lists.Lists.{when}
use Rattle.depot_requests.specs.Requests.{IsRequest}
use Rattle.depot_requests.specs.declared.request.Request.{Request}
use Rattle.depot_requests.specs.declared.request.Request.TheVariants as request
use Rattle.depot_source.specs.declared.hearing.TheConstants.{MOST_MESSAGE}
use Rattle.depot_requests.specs.ChangeTexts.{changes_text, ids_text, key_text}
use Rattle.depot_requests.specs.RequestTexts.{FindsRequest, as_bundle, as_get, as_put, as_receipt, as_settled, as_sign, as_take, asked_behind, request_of_body, request_kind, request_text, settled_text, value_read}
use Rattle.depot_requests.specs.declared.request_reader.TheConstants.{STREAM_PIECE}
use Rattle.depot_requests.proofs.AskedRequests.{may_be_asked}
use Rattle.depot_requests.proofs.ChangeTextLaws.{changes_text_lawful, ids_text_lawful, key_text_lawful}

settled_text_lawful : Lawful settled_text 36
unfolding settled_text
settled_text_lawful =
    field_lawful _ _ _ 32 4 digest_lawful (λ a s f h. ap (λ (x : List ℕ × ℕ). x.0) h.1) λ id _.
    field_lawful _ _ _ 4 0 (u32_lawful 0 4294967295 (omega arith)) (λ a s f h. ap (λ (x : List ℕ × ℕ). x.1) h) λ k _.
    made_lawful _

-- ---- a request of a kind is made of its part

is_put : (r : Request) (cs : List Change) → as_put r ≡ Some cs → r ≡ request.Put cs
is_put (request.Put ds) cs e = let p : ds ≡ cs = cc in ap (λ (x : List Change). request.Put x) p
is_put r cs e = absurd cc

is_get : (r : Request) (key : List ℕ) → as_get r ≡ Some key → r ≡ request.Get key
is_get (request.Get k) key e = let p : k ≡ key = cc in ap (λ (x : List ℕ). request.Get x) p
is_get r key e = absurd cc

is_bundle : (r : Request) (hello : List ℕ) → as_bundle r ≡ Some hello → r ≡ request.Bundle hello
is_bundle (request.Bundle h) hello e = let p : h ≡ hello = cc in ap (λ (x : List ℕ). request.Bundle x) p
is_bundle r hello e = absurd cc

of_piece : (s stream : List ℕ) (piece : ℕ) (b : Bool) → eqb piece STREAM_PIECE ≡ b → when b s ≡ Some stream → request.Take s piece ≡ request.Take stream STREAM_PIECE
of_piece s stream piece true is e = let p : s ≡ stream = cc in rw (eqb-true _ _ is) (ap (λ (x : List ℕ). request.Take x STREAM_PIECE) p)
of_piece s stream piece false is e = absurd cc

is_take : (r : Request) (stream : List ℕ) → as_take r ≡ Some stream → r ≡ request.Take stream STREAM_PIECE
is_take (request.Take s piece) stream e = of_piece s stream piece (eqb piece STREAM_PIECE) refl e
is_take r stream e = absurd cc

is_receipt : (r : Request) (ids : List (List ℕ)) → as_receipt r ≡ Some ids → r ≡ request.Receipt ids
is_receipt (request.Receipt is) ids e = let p : is ≡ ids = cc in ap (λ (x : List (List ℕ)). request.Receipt x) p
is_receipt r ids e = absurd cc

is_settled : (r : Request) (s : List ℕ × ℕ) → as_settled r ≡ Some s → r ≡ request.Settled s.0 s.1
is_settled (request.Settled id k) s e = let p : (id, k) ≡ s = cc in ap (λ (x : List ℕ × ℕ). request.Settled x.0 x.1) p
is_settled r s e = absurd cc

is_sign : (r : Request) (text : List ℕ) → as_sign r ≡ Some text → r ≡ request.Sign text
is_sign (request.Sign t) text e = let p : t ≡ text = cc in ap (λ (x : List ℕ). request.Sign x) p
is_sign r text e = absurd cc

-- ---- what follows a kind determines it

put_kind : (fits : List Change → Type 0) (r : Request) → HasPart fits (as_put r) → request_kind r ≡ 1
put_kind fits (request.Put changes) h = refl
put_kind fits r h = absurd h

get_kind : (fits : List ℕ → Type 0) (r : Request) → HasPart fits (as_get r) → request_kind r ≡ 2
get_kind fits (request.Get key) h = refl
get_kind fits r h = absurd h

bundle_kind : (fits : List ℕ → Type 0) (r : Request) → HasPart fits (as_bundle r) → request_kind r ≡ 4
bundle_kind fits (request.Bundle hello) h = refl
bundle_kind fits r h = absurd h

take_kind : (fits : List ℕ → Type 0) (r : Request) → HasPart fits (as_take r) → request_kind r ≡ 5
take_kind fits (request.Take stream piece) h = refl
take_kind fits r h = absurd h

receipt_kind : (fits : List (List ℕ) → Type 0) (r : Request) → HasPart fits (as_receipt r) → request_kind r ≡ 6
receipt_kind fits (request.Receipt ids) h = refl
receipt_kind fits r h = absurd h

settled_kind : (fits : (List ℕ × ℕ) → Type 0) (r : Request) → HasPart fits (as_settled r) → request_kind r ≡ 7
settled_kind fits (request.Settled id k) h = refl
settled_kind fits r h = absurd h

sign_kind : (fits : List ℕ → Type 0) (r : Request) → HasPart fits (as_sign r) → request_kind r ≡ 9
sign_kind fits (request.Sign text) h = refl
sign_kind fits r h = absurd h

kind_is : (a : ℕ) (r : Request) → 1 ≤ a → a ≤ 9 → (asked_behind a).fits r → request_kind r ≡ a
unfolding asked_behind
kind_is zero r low high h = absurd (omega arith)
kind_is (suc zero) r low high h = put_kind _ r h
kind_is (suc (suc zero)) r low high h = get_kind _ r h
kind_is (suc (suc (suc zero))) r low high h = ap request_kind h
kind_is (suc (suc (suc (suc zero)))) r low high h = bundle_kind _ r h
kind_is (suc (suc (suc (suc (suc zero))))) r low high h = take_kind _ r h
kind_is (suc (suc (suc (suc (suc (suc zero)))))) r low high h = receipt_kind _ r h
kind_is (suc (suc (suc (suc (suc (suc (suc zero))))))) r low high h = settled_kind _ r h
kind_is (suc (suc (suc (suc (suc (suc (suc (suc zero)))))))) r low high h = ap request_kind h
kind_is (suc (suc (suc (suc (suc (suc (suc (suc (suc zero))))))))) r low high h = sign_kind _ r h
kind_is (suc (suc (suc (suc (suc (suc (suc (suc (suc (suc n)))))))))) r low high h = absurd (omega arith)

-- ---- all kinds

abbrev most : ℕ
most = MOST_MESSAGE - 1

asked_lawful : (kind : ℕ) → LawfulClosed (asked_behind kind) most
unfolding asked_behind
asked_lawful kind =
    closed_choose_lawful (eqb kind 1) _ _ most (closed_variant_lawful (λ cs. request.Put cs) as_put (closing changes_text) most (λ cs. refl) is_put (weaken_closed _ 1052753 most (omega arith) (closing_lawful _ 1052753 changes_text_lawful)))
    (closed_choose_lawful (eqb kind 2) _ _ most (closed_variant_lawful (λ key. request.Get key) as_get (closing key_text) most (λ key. refl) is_get (weaken_closed _ 256 most (omega arith) (closing_lawful _ 256 key_text_lawful)))
    (closed_choose_lawful (eqb kind 3) _ _ most (weaken_closed _ 0 most (omega arith) (closing_lawful _ 0 (made_lawful request.Hello)))
    (closed_choose_lawful (eqb kind 4) _ _ most (closed_variant_lawful (λ hello. request.Bundle hello) as_bundle (rest_of most) most (λ hello. refl) is_bundle (rest_lawful most))
    (closed_choose_lawful (eqb kind 5) _ _ most (closed_variant_lawful (λ stream. request.Take stream STREAM_PIECE) as_take (rest_of most) most (λ stream. refl) is_take (rest_lawful most))
    (closed_choose_lawful (eqb kind 6) _ _ most (closed_variant_lawful (λ ids. request.Receipt ids) as_receipt (closing ids_text) most (λ ids. refl) is_receipt (weaken_closed _ 513 most (omega arith) (closing_lawful _ 513 ids_text_lawful)))
    (closed_choose_lawful (eqb kind 7) _ _ most (closed_variant_lawful (λ s. request.Settled s.0 s.1) as_settled (closing settled_text) most (λ s. refl) is_settled (weaken_closed _ 36 most (omega arith) (closing_lawful _ 36 settled_text_lawful)))
    (closed_choose_lawful (eqb kind 8) _ _ most (weaken_closed _ 0 most (omega arith) (closing_lawful _ 0 (made_lawful request.Checkpoint)))
    (closed_variant_lawful (λ text. request.Sign text) as_sign (rest_of most) most (λ text. refl) is_sign (rest_lawful most)))))))))

pub request_text_lawful : LawfulClosed request_text MOST_MESSAGE
unfolding request_text
request_text_lawful =
    before_lawful (number w8 1 9) request_kind asked_behind 1 most (u8_lawful 1 9 (omega arith)) (λ a r f h. let w = number_within w8 1 9 a f in kind_is a r w.0 w.1 h) λ kind _. asked_lawful kind

pub one_way : IsClosedReadInOneWay request_text
one_way = closed_in_one_way request_text MOST_MESSAGE request_text_lawful

-- ---- what a reader finds

pub finds : (body : List ℕ) (r : Result Request Fault) → Gives r (request_text.read (cursor 0 body)) → FindsRequest body (decoded r)
finds body (Ok r) gives = ap value_read gives
finds body (Err Memory) gives = tt
finds body (Err (At at)) gives = ap value_read gives

-- a node may be asked for it
pub all_may_be_asked : (body : List ℕ) → IsBytes body → (r : Result Request Fault) → Gives r (request_text.read (cursor 0 body)) → IfOk (decoded r) IsRequest
all_may_be_asked body bytes (Ok r) gives = may_be_asked r (request_text_lawful.takes (cursor 0 body) r bytes gives).0
all_may_be_asked body bytes (Err Memory) gives = tt
all_may_be_asked body bytes (Err (At at)) gives = tt
