-- The text of a question is lawful.
use Rattle.std.proofs.Common.{◌≡◌, ℕ, ◌≤◌, Bool, true, false, eqb, List, length, Option, Some, None, Result, Ok, Err, refl, sym, ap, ◌∙◌, arith}
use Rattle.std.specs.Int.{w8}
use Rattle.std.proofs.lemmas.Bool.{eqb-true, eqb-false}
use Rattle.depot_base.specs.Closed.{Closed, closing, closed_choose}
use Rattle.depot_base.specs.Cursor.{numeral}
use Rattle.depot_base.specs.Format.{Format, HasPart, bytes_of, choose, field, made_of_fields, number}
use Rattle.depot_base.specs.Parts.{digest}
use Rattle.depot_base.specs.Reading.{Gives, IsClosedReadInOneWay, decoded}
use Rattle.depot_base.specs.declared.fault.Fault.{Fault}
use Rattle.depot_base.specs.declared.fault.Fault.TheVariants.{Memory, At}
use Rattle.depot_base.proofs.ClosedLaws.{LawfulClosed, before_lawful, closed_choose_lawful, closed_variant_lawful, closing_lawful, weaken_closed}
use Rattle.depot_base.proofs.Combined.{bytes_count, bytes_lawful, choose_lawful, field_lawful, made_lawful}
use Rattle.depot_base.proofs.Decoding.{closed_in_one_way}
use Rattle.depot_base.proofs.FormatLaws.{Lawful, cursor, weaken}
use Rattle.depot_base.proofs.Numbers.{number_within}
use Rattle.depot_base.proofs.PartLaws.{digest_lawful, u32_lawful, u8_lawful}
use Rattle.depot_questions.specs.declared.question.Question.{Question}
use Rattle.depot_questions.specs.declared.question.Question.TheVariants as question
use Rattle.depot_questions.specs.QuestionTexts.{BeginsWithKind, FindsQuestion, as_accepted, as_convictions, as_keys, as_latest, as_update_asked, as_updates, key_behind, question_behind, question_kind, question_text, start_text}
use Rattle.depot_requests.specs.ChangeTexts.{ids_text, key_text}
use Rattle.depot_requests.specs.RequestTexts.{value_read}
use Rattle.depot_requests.specs.TellingTexts.{any_u32_text}
use Rattle.depot_requests.proofs.ChangeTextLaws.{ids_text_lawful, key_text_lawful}

-- ---- a key, or none

abbrev start_behind : Bool → ℕ → Format (Option (List ℕ))
start_behind none size = choose none (made_of_fields None) (field (bytes_of size) key_behind λ key. made_of_fields (Some key))

size_is : (none : Bool) (size : ℕ) (after : Option (List ℕ)) → eqb size 0 ≡ none → (start_behind none size).fits after → length (key_behind after) ≡ size
size_is true size after is h = ap (λ (o : Option (List ℕ)). length (key_behind o)) h ∙ sym (eqb-true size 0 is)
size_is false size after is h = bytes_count size (key_behind after) h.0

start_text_lawful : Lawful start_text 256
unfolding start_text
start_text_lawful =
    field_lawful _ _ _ 1 255 (u8_lawful 0 255 (omega arith)) (λ size after f h. size_is (eqb size 0) size after refl h) λ size range.
    choose_lawful (eqb size 0) _ _ 255 (weaken _ 0 255 (omega arith) (made_lawful None))
    (field_lawful _ _ _ 255 0 (weaken _ size 255 (let r = number_within w8 0 255 size range in omega arith) (bytes_lawful size)) (λ key after f h. ap key_behind h) λ key _. made_lawful (Some key))

-- ---- a question of a kind is made of its part

is_convictions : (q : Question) (from : ℕ) → as_convictions q ≡ Some from → q ≡ question.Convictions from
is_convictions (question.Convictions n) from e = let p : n ≡ from = cc in ap (λ (x : ℕ). question.Convictions x) p
is_convictions q from e = absurd cc

is_keys : (q : Question) (after : Option (List ℕ)) → as_keys q ≡ Some after → q ≡ question.Keys after
is_keys (question.Keys o) after e = let p : o ≡ after = cc in ap (λ (x : Option (List ℕ)). question.Keys x) p
is_keys q after e = absurd cc

is_latest : (q : Question) (key : List ℕ) → as_latest q ≡ Some key → q ≡ question.Latest key
is_latest (question.Latest k) key e = let p : k ≡ key = cc in ap (λ (x : List ℕ). question.Latest x) p
is_latest q key e = absurd cc

is_update : (q : Question) (id : List ℕ) → as_update_asked q ≡ Some id → q ≡ question.Update id
is_update (question.Update h) id e = let p : h ≡ id = cc in ap (λ (x : List ℕ). question.Update x) p
is_update q id e = absurd cc

is_accepted : (q : Question) (ids : List (List ℕ)) → as_accepted q ≡ Some ids → q ≡ question.Accepted ids
is_accepted (question.Accepted hs) ids e = let p : hs ≡ ids = cc in ap (λ (x : List (List ℕ)). question.Accepted x) p
is_accepted q ids e = absurd cc

is_updates : (q : Question) (from : ℕ) → as_updates q ≡ Some from → q ≡ question.Updates from
is_updates (question.Updates n) from e = let p : n ≡ from = cc in ap (λ (x : ℕ). question.Updates x) p
is_updates q from e = absurd cc

-- ---- what follows a kind determines it

convictions_kind : (fits : ℕ → Type 0) (q : Question) → HasPart fits (as_convictions q) → question_kind q ≡ 17
convictions_kind fits (question.Convictions from) h = refl
convictions_kind fits q h = absurd h

keys_kind : (fits : Option (List ℕ) → Type 0) (q : Question) → HasPart fits (as_keys q) → question_kind q ≡ 18
keys_kind fits (question.Keys after) h = refl
keys_kind fits q h = absurd h

latest_kind : (fits : List ℕ → Type 0) (q : Question) → HasPart fits (as_latest q) → question_kind q ≡ 19
latest_kind fits (question.Latest key) h = refl
latest_kind fits q h = absurd h

update_kind : (fits : List ℕ → Type 0) (q : Question) → HasPart fits (as_update_asked q) → question_kind q ≡ 20
update_kind fits (question.Update id) h = refl
update_kind fits q h = absurd h

accepted_kind : (fits : List (List ℕ) → Type 0) (q : Question) → HasPart fits (as_accepted q) → question_kind q ≡ 21
accepted_kind fits (question.Accepted ids) h = refl
accepted_kind fits q h = absurd h

updates_kind : (fits : ℕ → Type 0) (q : Question) → HasPart fits (as_updates q) → question_kind q ≡ 22
updates_kind fits (question.Updates from) h = refl
updates_kind fits q h = absurd h

-- of a kind it is one of these, and else one of others
pub pick : {V : Type 0} (kind : V → ℕ) (one other : Closed V) (n a : ℕ) (v : V) (b : Bool) → eqb a n ≡ b → (one.fits v → kind v ≡ n) → ((a ≡ n → ⊥) → other.fits v → kind v ≡ a) → (closed_choose b one other).fits v → kind v ≡ a
pick kind one other n a v true is here later h = here h ∙ sym (eqb-true a n is)
pick kind one other n a v false is here later h = later (eqb-false a n is) h

kind_is : (a : ℕ) (q : Question) → 16 ≤ a → a ≤ 22 → (question_behind a).fits q → question_kind q ≡ a
unfolding question_behind
kind_is a q low high h =
    pick question_kind _ _ 16 a q (eqb a 16) refl (λ g. ap question_kind g) (λ n16. pick question_kind _ _ 17 a q (eqb a 17) refl (λ g. convictions_kind _ q g) (λ n17. pick question_kind _ _ 18 a q (eqb a 18) refl (λ g. keys_kind _ q g) (λ n18. pick question_kind _ _ 19 a q (eqb a 19) refl (λ g. latest_kind _ q g)
    (λ n19. pick question_kind _ _ 20 a q (eqb a 20) refl (λ g. update_kind _ q g) (λ n20. pick question_kind _ _ 21 a q (eqb a 21) refl (λ g. accepted_kind _ q g) (λ n21 g. let last : 22 ≡ a = omega (arith, low, high, n16, n17, n18, n19, n20, n21) in updates_kind _ q g ∙ last)))))) h

-- ---- all kinds

question_lawful : (kind : ℕ) → LawfulClosed (question_behind kind) 513
unfolding question_behind
question_lawful kind =
    closed_choose_lawful (eqb kind 16) _ _ 513 (weaken_closed _ 0 513 (omega arith) (closing_lawful _ 0 (made_lawful question.Status)))
    (closed_choose_lawful (eqb kind 17) _ _ 513 (closed_variant_lawful (λ from. question.Convictions from) as_convictions (closing any_u32_text) 513 (λ from. refl) is_convictions (weaken_closed _ 4 513 (omega arith) (closing_lawful _ 4 (u32_lawful 0 4294967295 (omega arith)))))
    (closed_choose_lawful (eqb kind 18) _ _ 513 (closed_variant_lawful (λ after. question.Keys after) as_keys (closing start_text) 513 (λ after. refl) is_keys (weaken_closed _ 256 513 (omega arith) (closing_lawful _ 256 start_text_lawful)))
    (closed_choose_lawful (eqb kind 19) _ _ 513 (closed_variant_lawful (λ key. question.Latest key) as_latest (closing key_text) 513 (λ key. refl) is_latest (weaken_closed _ 256 513 (omega arith) (closing_lawful _ 256 key_text_lawful)))
    (closed_choose_lawful (eqb kind 20) _ _ 513 (closed_variant_lawful (λ id. question.Update id) as_update_asked (closing digest) 513 (λ id. refl) is_update (weaken_closed _ 32 513 (omega arith) (closing_lawful _ 32 digest_lawful)))
    (closed_choose_lawful (eqb kind 21) _ _ 513 (closed_variant_lawful (λ ids. question.Accepted ids) as_accepted (closing ids_text) 513 (λ ids. refl) is_accepted (closing_lawful _ 513 ids_text_lawful))
    (closed_variant_lawful (λ from. question.Updates from) as_updates (closing any_u32_text) 513 (λ from. refl) is_updates (weaken_closed _ 4 513 (omega arith) (closing_lawful _ 4 (u32_lawful 0 4294967295 (omega arith))))))))))

pub question_text_lawful : LawfulClosed question_text 514
unfolding question_text
question_text_lawful =
    before_lawful (number w8 16 22) question_kind question_behind 1 513 (u8_lawful 16 22 (omega arith)) (λ a q f h. let w = number_within w8 16 22 a f in kind_is a q w.0 w.1 h) λ kind _. question_lawful kind

pub one_way : IsClosedReadInOneWay question_text
one_way = closed_in_one_way question_text 514 question_text_lawful

-- ---- what a reader finds

pub finds : (body : List ℕ) (r : Result Question Fault) → Gives r (question_text.read (cursor 0 body)) → FindsQuestion body (decoded r)
finds body (Ok q) gives = ap value_read gives
finds body (Err Memory) gives = tt
finds body (Err (At at)) gives = ap value_read gives

-- ---- the first byte

pub begins_so : (q : Question) → BeginsWithKind q
unfolding question_text number numeral
begins_so question.Status = record { rest = _; is = refl; least = omega arith; most = omega arith }
begins_so (question.Convictions from) = record { rest = _; is = refl; least = omega arith; most = omega arith }
begins_so (question.Keys after) = record { rest = _; is = refl; least = omega arith; most = omega arith }
begins_so (question.Latest key) = record { rest = _; is = refl; least = omega arith; most = omega arith }
begins_so (question.Update id) = record { rest = _; is = refl; least = omega arith; most = omega arith }
begins_so (question.Accepted ids) = record { rest = _; is = refl; least = omega arith; most = omega arith }
begins_so (question.Updates from) = record { rest = _; is = refl; least = omega arith; most = omega arith }
