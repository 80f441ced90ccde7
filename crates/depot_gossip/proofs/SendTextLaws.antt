-- The texts of requests to send are lawful.
use Rattle.std.proofs.Common.{◌≡◌, ℕ, zero, suc, ◌+◌, ◌-◌, ◌≤◌, Bool, true, false, cond, eqb, List, Some, None, Result, Ok, Err, refl, sym, ap, ◌∙◌, arith}
use Rattle.std.specs.Int.{w8}
use Rattle.std.proofs.lemmas.Bool.{eqb-false, eqb-true}
use Rattle.depot_base.specs.Closed.{closed_choose, closed_variant, closing}
use Rattle.depot_base.specs.Format.{HasPart, made_of_fields, number}
use Rattle.depot_base.specs.Reading.{Gives, IsClosedReadInOneWay, decoded}
use Rattle.depot_base.specs.declared.fault.Fault.{Fault}
use Rattle.depot_base.specs.declared.fault.Fault.TheVariants.{At, Memory}
use Rattle.depot_base.proofs.ClosedLaws.{LawfulClosed, before_lawful, closed_choose_lawful, closed_variant_lawful, closing_lawful, rest_lawful, weaken_closed}
use Rattle.depot_base.proofs.Combined.{field_lawful, made_lawful}
use Rattle.depot_base.proofs.Decoding.{closed_in_one_way}
use Rattle.depot_base.proofs.FormatLaws.{Lawful, cursor}
use Rattle.depot_base.proofs.Numbers.{number_within}
use Rattle.depot_base.proofs.PartLaws.{u32_lawful, u8_lawful}
use Rattle.depot_requests.specs.RequestTexts.{value_read}
use Rattle.depot_requests.proofs.ReplyLaws.{last_field_lawful}
use Rattle.depot_source.specs.declared.hearing.TheConstants.{MOST_MESSAGE}
use Rattle.depot_gossip.specs.SendTexts.{FindsSending, as_bounded, bounded_text, bounds_text, own_flag, send_kind, sending_text, sent_behind, vouchers_number, vouchers_told}
use Rattle.depot_gossip.specs.declared.bounds.Bounds.{Bounds}
use Rattle.depot_gossip.specs.declared.send_request.SendRequest.{SendRequest}
use Rattle.depot_gossip.specs.declared.send_request.SendRequest.TheVariants as request

-- ---- bounds

told_back : (n : ℕ) → vouchers_number (vouchers_told n) ≡ n
told_back n = by_test (eqb n 4294967295) refl where
  by_test : (b : Bool) → eqb n 4294967295 ≡ b → vouchers_number (cond b None (Some n)) ≡ n
  by_test true is = sym (eqb-true n 4294967295 is)
  by_test false is = refl

flag_back : (n : ℕ) → n ≤ 1 → own_flag (eqb n 1) ≡ n
flag_back zero few = refl
flag_back (suc zero) few = refl
flag_back (suc (suc n)) few = absurd (omega (arith, few))

bounds_text_lawful : Lawful bounds_text 9
unfolding bounds_text
bounds_text_lawful =
    field_lawful _ _ _ 4 5 (u32_lawful 1 67108864 (omega arith)) (λ a b f h. ap (λ (x : Bounds). x.bytes) h.1.1) λ bytes _.
    field_lawful _ _ _ 4 1 (u32_lawful 0 4294967295 (omega arith)) (λ a b f h. ap (λ (x : Bounds). vouchers_number x.vouchers) h.1 ∙ told_back a) λ vouchers _.
    field_lawful _ _ _ 1 0 (u8_lawful 0 1 (omega arith)) (λ a b f h. ap (λ (x : Bounds). own_flag x.own) h ∙ flag_back a (number_within w8 0 1 a f).1) λ own _.
    made_lawful _

-- ---- what is asked

abbrev most : ℕ
most = MOST_MESSAGE - 10

bounded_text_lawful : LawfulClosed bounded_text (9 + most)
unfolding bounded_text
bounded_text_lawful =
    before_lawful _ _ _ 9 most bounds_text_lawful (λ a p f h. ap (λ (x : Bounds × List ℕ). x.0) h.1) λ bounds _.
    last_field_lawful _ _ _ most (λ a. refl) (rest_lawful most)

is_bounded : (r : SendRequest) (p : Bounds × List ℕ) → as_bounded r ≡ Some p → r ≡ request.Bounded p.1 p.0
is_bounded request.FarHello p e = absurd cc
is_bounded (request.Bounded hello bounds) p e = let q : (bounds, hello) ≡ p = cc in ap (λ (x : Bounds × List ℕ). request.Bounded x.1 x.0) q

bounded_kind : (fits : (Bounds × List ℕ) → Type 0) (r : SendRequest) → HasPart fits (as_bounded r) → send_kind r ≡ 33
bounded_kind fits request.FarHello h = absurd h
bounded_kind fits (request.Bounded hello bounds) h = refl

kind_is : (a : ℕ) (r : SendRequest) → 32 ≤ a → a ≤ 33 → (sent_behind a).fits r → send_kind r ≡ a
unfolding sent_behind
kind_is a r low high h = by_test (eqb a 32) refl h where
  by_test : (b : Bool) → eqb a 32 ≡ b → (closed_choose b (closing (made_of_fields request.FarHello)) (closed_variant (λ (p : Bounds × List ℕ). request.Bounded p.1 p.0) as_bounded bounded_text)).fits r → send_kind r ≡ a
  by_test true is f = ap send_kind f ∙ sym (eqb-true a 32 is)
  by_test false is f = bounded_kind _ r f ∙ (let other = eqb-false a 32 is in omega (arith, low, high, other))

sent_lawful : (kind : ℕ) → LawfulClosed (sent_behind kind) (9 + most)
unfolding sent_behind
sent_lawful kind =
    closed_choose_lawful (eqb kind 32) _ _ (9 + most) (weaken_closed _ 0 (9 + most) (omega arith) (closing_lawful _ 0 (made_lawful request.FarHello)))
    (closed_variant_lawful (λ p. request.Bounded p.1 p.0) as_bounded bounded_text (9 + most) (λ p. refl) is_bounded bounded_text_lawful)

pub sending_text_lawful : LawfulClosed sending_text MOST_MESSAGE
unfolding sending_text
sending_text_lawful = before_lawful (number w8 32 33) send_kind sent_behind 1 (9 + most) (u8_lawful 32 33 (omega arith)) (λ a r f h. let w = number_within w8 32 33 a f in kind_is a r w.0 w.1 h) λ kind _. sent_lawful kind

pub one_way : IsClosedReadInOneWay sending_text
one_way = closed_in_one_way sending_text MOST_MESSAGE sending_text_lawful

-- what a reader finds
pub finds : (body : List ℕ) (r : Result SendRequest Fault) → Gives r (sending_text.read (cursor 0 body)) → FindsSending body (decoded r)
finds body (Ok r) gives = ap value_read gives
finds body (Err Memory) gives = tt
finds body (Err (At at)) gives = ap value_read gives
