-- The body of the own statement in the text of a record.
use Rattle.std.proofs.Common.{◌≡◌, ℕ, ◌+◌, ◌-◌, ◌<◌, ◌≤◌, List, [], ◌∷◌, length, map, take, drop, get_or, refl, sym, ap, ◌∙◌, arith}
use Rattle.std.specs.Int.{w32, from_be_bytes}
use Rattle.std.proofs.lemmas.List.{take_all}
use Rattle.depot_base.specs.Cursor.{numeral}
use Rattle.depot_base.specs.Format.{number}
use Rattle.depot_base.specs.declared.statement.Statement.TheVariants as statements
use Rattle.depot_base.specs.declared.record.Record.{Record}
use Rattle.depot_base.specs.declared.record.Record.TheVariants.{Birth, OwnPut, OwnVoucher, Foreign, Conviction, Held}
use Rattle.depot_model.specs.journals.Journal.{own_by}
use Rattle.depot_model.specs.texts.Records.{tagged, record_text, tag_of, text_of_record, IsTextOf}
use Rattle.depot_model.specs.texts.Texts.{text_of_statement}
use Rattle.depot_model.proofs.of_texts.BodyLaws.{text_of_statement-Update}
use Rattle.depot_model.proofs.of_texts.RecordLaws.{length_in_own_put, body_in_own_put, long_own_put, own_voucher_text}

-- the text of a record is its tag and what follows
record HasTag (r : Record) : Type 0 where
  pub rest : List ℕ
  pub is : text_of_record r ≡ tag_of r ∷ rest

has_tag : (r : Record) → HasTag r
unfolding record_text number numeral
has_tag (Birth node h) = record { rest = (tagged 1).text (Birth node h); is = refl }
has_tag (OwnPut u values) = record { rest = (tagged 2).text (OwnPut u values); is = refl }
has_tag (OwnVoucher v) = record { rest = (tagged 3).text (OwnVoucher v); is = refl }
has_tag (Foreign s) = record { rest = (tagged 4).text (Foreign s); is = refl }
has_tag (Conviction p) = record { rest = (tagged 5).text (Conviction p); is = refl }
has_tag (Held value) = record { rest = (tagged 6).text (Held value); is = refl }

-- no record has an empty text
pub some_text : (r : Record) (text : List ℕ) → IsTextOf r text → length text < 1 → ⊥
some_text r text t lt = let tag = has_tag r in omega (arith, ap length (t.is ∙ tag.is), lt)

-- the first byte is the tag
first_is_tag : (r : Record) (text : List ℕ) → IsTextOf r text → get_or text 0 0 ≡ tag_of r
first_is_tag r text t = let tag = has_tag r in ap (λ (bytes : List ℕ). get_or bytes 0 0) (t.is ∙ tag.is)

-- that of an own update's has its body after the length
pub put_body : (r : Record) (text body : List ℕ) → IsTextOf r text → get_or text 0 0 ≡ 2 → body ≡ take (from_be_bytes w32 (take 4 (drop 1 text))) (drop 5 text) → body ∷ [] ≡ map text_of_statement (own_by r)
put_body (OwnPut u values) text body t tag is = ap (λ (b : List ℕ). b ∷ []) (is ∙ body_in_own_put text u values t.fits t.is ∙ sym (text_of_statement-Update u))
put_body (Birth node h) text body t tag is = absurd (omega (arith, tag, first_is_tag (Birth node h) text t))
put_body (OwnVoucher v) text body t tag is = absurd (omega (arith, tag, first_is_tag (OwnVoucher v) text t))
put_body (Foreign s) text body t tag is = absurd (omega (arith, tag, first_is_tag (Foreign s) text t))
put_body (Conviction p) text body t tag is = absurd (omega (arith, tag, first_is_tag (Conviction p) text t))
put_body (Held value) text body t tag is = absurd (omega (arith, tag, first_is_tag (Held value) text t))

-- and is long enough for it
pub record IsLong (text : List ℕ) : Type 0 where
  pub head : 5 ≤ length text
  pub whole : 5 + from_be_bytes w32 (take 4 (drop 1 text)) ≤ length text

pub put_is_long : (r : Record) (text : List ℕ) → IsTextOf r text → get_or text 0 0 ≡ 2 → IsLong text
put_is_long (OwnPut u values) text t tag =
    let long = long_own_put text u values t.is in
    record { head = omega (arith, long); whole = omega (arith, long, length_in_own_put text u values t.fits t.is) }
put_is_long (Birth node h) text t tag = absurd (omega (arith, tag, first_is_tag (Birth node h) text t))
put_is_long (OwnVoucher v) text t tag = absurd (omega (arith, tag, first_is_tag (OwnVoucher v) text t))
put_is_long (Foreign s) text t tag = absurd (omega (arith, tag, first_is_tag (Foreign s) text t))
put_is_long (Conviction p) text t tag = absurd (omega (arith, tag, first_is_tag (Conviction p) text t))
put_is_long (Held value) text t tag = absurd (omega (arith, tag, first_is_tag (Held value) text t))

-- that of an own voucher's has it after the tag
pub voucher_body : (r : Record) (text body : List ℕ) → IsTextOf r text → get_or text 0 0 ≡ 3 → body ≡ take (length text - 1) (drop 1 text) → body ∷ [] ≡ map text_of_statement (own_by r)
voucher_body (OwnVoucher v) text body t tag is =
    let whole = t.is ∙ own_voucher_text v in
    let rest = text_of_statement (statements.Voucher v) in
    ap (λ (b : List ℕ). b ∷ []) (is ∙ ap (λ (bytes : List ℕ). take (length bytes - 1) (drop 1 bytes)) whole ∙ take_all (length (3 ∷ rest) - 1) rest (omega arith))
voucher_body (Birth node h) text body t tag is = absurd (omega (arith, tag, first_is_tag (Birth node h) text t))
voucher_body (OwnPut u values) text body t tag is = absurd (omega (arith, tag, first_is_tag (OwnPut u values) text t))
voucher_body (Foreign s) text body t tag is = absurd (omega (arith, tag, first_is_tag (Foreign s) text t))
voucher_body (Conviction p) text body t tag is = absurd (omega (arith, tag, first_is_tag (Conviction p) text t))
voucher_body (Held value) text body t tag is = absurd (omega (arith, tag, first_is_tag (Held value) text t))

-- and every other holds none
pub no_body : (r : Record) (text : List ℕ) → IsTextOf r text → (get_or text 0 0 ≡ 2 → ⊥) → (get_or text 0 0 ≡ 3 → ⊥) → [] ≡ map text_of_statement (own_by r)
no_body (OwnPut u values) text t put voucher = absurd (put (first_is_tag (OwnPut u values) text t))
no_body (OwnVoucher v) text t put voucher = absurd (voucher (first_is_tag (OwnVoucher v) text t))
no_body (Birth node h) text t put voucher = refl
no_body (Foreign s) text t put voucher = refl
no_body (Conviction p) text t put voucher = refl
no_body (Held value) text t put voucher = refl
