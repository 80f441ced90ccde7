-- The one text of each record, and the bytes of a journal.
use Rattle.std.specs.Prelude.{◌≡◌, ℕ, ◌+◌, List, length, sum_by, Option, Some, None, ◌==◌}
use Rattle.std.specs.Int.{w8, w32}
use Rattle.depot_base.specs.declared.limits.TheConstants.{MOST_VALUE}
use Rattle.depot_base.specs.Format.{number, field, made_of_fields, inner, pieces}
use Rattle.depot_base.specs.Closed.{Closed, closing, rest_of, before, closed_variant, closed_choose}
use Rattle.depot_base.specs.Parts.{node_number, digest}
use Rattle.depot_base.specs.Writes.{sizes_of}
use Rattle.depot_base.specs.declared.update.Update.{Update}
use Rattle.depot_base.specs.declared.voucher.Voucher.{Voucher}
use Rattle.depot_base.specs.declared.statement.Signed.{Signed}
use Rattle.depot_base.specs.declared.proof.Proof.{Proof}
use Rattle.depot_base.specs.declared.record.Record.{Record}
use Rattle.depot_base.specs.declared.record.Record.TheVariants.{Birth, OwnPut, OwnVoucher, Foreign, Conviction, Held}
use Rattle.depot_model.specs.texts.Texts.{update_body, voucher_body, signed, proof, text_of_update}

-- ---- what each kind of record holds

abbrev pub as_birth : Record → Option (ℕ × List ℕ)
as_birth (Birth node roster) = Some (node, roster)
as_birth r = None

abbrev pub as_own_put : Record → Option (Update × List (List ℕ))
as_own_put (OwnPut u values) = Some (u, values)
as_own_put r = None

abbrev pub as_own_voucher : Record → Option Voucher
as_own_voucher (OwnVoucher v) = Some v
as_own_voucher r = None

abbrev pub as_foreign : Record → Option Signed
as_foreign (Foreign s) = Some s
as_foreign r = None

abbrev pub as_conviction : Record → Option Proof
as_conviction (Conviction p) = Some p
as_conviction r = None

abbrev pub as_held : Record → Option (List ℕ)
as_held (Held value) = Some value
as_held r = None

-- ---- the text after the tag

-- a node, and the hash of its roster
unfoldable pub birth : Closed (ℕ × List ℕ)
birth =
    closing (field node_number (λ b. b.0) λ node.
    field digest (λ b. b.1) λ roster.
    made_of_fields (node, roster))

-- an update body after its length, and then the values that its writes name, each of its length, in the order of the
-- writes
unfoldable pub own_put : Closed (Update × List (List ℕ))
own_put =
    before (number w32 0 4294967295) (λ p. length (text_of_update p.0)) λ body_length.
    before (inner body_length update_body) (λ p. p.0) λ update.
    closing (field (pieces (sizes_of update.writes)) (λ p. p.1) λ values. made_of_fields (update, values))

abbrev pub tag_of : Record → ℕ
tag_of (Birth node roster) = 1
tag_of (OwnPut u values) = 2
tag_of (OwnVoucher v) = 3
tag_of (Foreign s) = 4
tag_of (Conviction p) = 5
tag_of (Held value) = 6

-- what follows a tag
unfoldable pub tagged : ℕ → Closed Record
tagged tag =
    closed_choose (tag == 1) (closed_variant (λ b. Birth b.0 b.1) as_birth birth)
    (closed_choose (tag == 2) (closed_variant (λ p. OwnPut p.0 p.1) as_own_put own_put)
    (closed_choose (tag == 3) (closed_variant (λ v. OwnVoucher v) as_own_voucher (closing voucher_body))
    (closed_choose (tag == 4) (closed_variant (λ s. Foreign s) as_foreign (closing signed))
    (closed_choose (tag == 5) (closed_variant (λ p. Conviction p) as_conviction (closing proof))
    (closed_variant (λ value. Held value) as_held (rest_of MOST_VALUE))))))

-- a tag, and what follows it
unfoldable pub record_text : Closed Record
record_text = before (number w8 1 6) tag_of tagged

-- which records have a text, and that text
abbrev pub IsRecord : Record → Type 0
IsRecord r = record_text.fits r

abbrev pub text_of_record : Record → List ℕ
text_of_record r = record_text.text r

-- the text is that of this record
pub record IsTextOf (r : Record) (text : List ℕ) : Type 0 where
  pub fits : IsRecord r
  pub is : text ≡ text_of_record r

-- the text of an own put's values: one after another, each of the length that its write names
abbrev pub text_of_put_values : Update → List (List ℕ) → List ℕ
text_of_put_values u values = (pieces (sizes_of u.writes)).text values

-- the bytes of a journal: the first gate, and for each record its length, its text and the next gate
abbrev pub journal_bytes : List Record → ℕ
journal_bytes J = 1 + sum_by (λ r. 5 + length (text_of_record r)) J
