-- How long the texts of records are.
use Rattle.std.proofs.Common.{◌≡◌, ℕ, ◌+◌, ◌≤◌, List, [], ◌++◌, length, ap, arith, length-append}
use Rattle.std.specs.Int.{w8, w32}
use Rattle.depot_base.specs.Cursor.{numeral}
use Rattle.depot_base.specs.Format.{number, bytes_of, inner, pieces}
use Rattle.depot_base.specs.Writes.{sizes_of}
use Rattle.depot_base.specs.Closed.{rest_of}
use Rattle.depot_base.specs.Parts.{node_number, digest}
use Rattle.depot_base.specs.declared.proof.Proof.{Proof}
use Rattle.depot_base.specs.declared.statement.Signed.{Signed}
use Rattle.depot_base.specs.declared.update.Update.{Update}
use Rattle.depot_base.specs.declared.record.Record.{Record}
use Rattle.depot_base.specs.declared.record.Record.TheVariants.{Birth, OwnPut, OwnVoucher, Foreign, Conviction, Held}
use Rattle.depot_base.proofs.PartLaws.{u8_lawful, u32_lawful, node_lawful, digest_lawful, pieces_lawful}
use Rattle.depot_model.specs.texts.Texts.{update_body, IsUpdate, text_of_proof, text_of_signed}
use Rattle.depot_model.specs.texts.Records.{birth, own_put, tagged, tag_of, record_text, IsRecord, text_of_record, IsTextOf}
use Rattle.depot_model.proofs.of_texts.RecordLaws.{short_values}
use Rattle.depot_model.proofs.of_texts.TextLaws.{update_body_lawful, voucher_body_lawful, signed_lawful, proof_lawful}
use Rattle.depot_laws.proofs.records.Births.{short_birth}

-- ---- how long it is

tag_short : (tag : ℕ) → (number w8 1 6).fits tag → length ((number w8 1 6).text tag) ≤ 1
tag_short tag fits = (u8_lawful 1 6 (omega arith)).short tag fits

birth_short : (b : ℕ × List ℕ) → birth.fits b → length (birth.text b) ≤ 34
unfolding birth
birth_short b fits = omega (arith, node_lawful.short b.0 fits.0, digest_lawful.short b.1 fits.1.0, length-append (node_number.text b.0) (digest.text b.1 ++ []), length-append (digest.text b.1) [])

body_length_short : (n : ℕ) → (number w32 0 4294967295).fits n → length ((number w32 0 4294967295).text n) ≤ 4
body_length_short n fits = (u32_lawful 0 4294967295 (omega arith)).short n fits

own_put_short : (p : Update × List (List ℕ)) → own_put.fits p → length (own_put.text p) ≤ 1096359
unfolding own_put inner
own_put_short p fits =
    let body : IsUpdate p.0 = fits.1.0.0 in
    let values = pieces_lawful (sizes_of p.0.writes) in
    omega (
      arith,
      body_length_short _ fits.0,
      update_body_lawful.short p.0 body,
      short_values p.0 body,
      values.short p.1 fits.1.1.0,
      length-append ((number w32 0 4294967295).text (length (update_body.text p.0))) (update_body.text p.0 ++ ((pieces (sizes_of p.0.writes)).text p.1 ++ [])),
      length-append (update_body.text p.0) ((pieces (sizes_of p.0.writes)).text p.1 ++ []),
      length-append ((pieces (sizes_of p.0.writes)).text p.1) [],
    )

held_short : (v : List ℕ) → (rest_of 65536).fits v → length ((rest_of 65536).text v) ≤ 65536
unfolding rest_of
held_short v fits = fits

behind_tag_short : (r : Record) → (tagged (tag_of r)).fits r → length ((tagged (tag_of r)).text r) ≤ 1096359
unfolding tagged
behind_tag_short (Birth node roster) fits = let short = birth_short (node, roster) fits in omega (arith, short)
behind_tag_short (OwnPut u values) fits = own_put_short (u, values) fits
behind_tag_short (OwnVoucher v) fits = let short = voucher_body_lawful.short v fits in omega (arith, short)
behind_tag_short (Foreign s) fits = let short = signed_lawful.short s fits in omega (arith, short)
behind_tag_short (Conviction p) fits = let short = proof_lawful.short p fits in omega (arith, short)
behind_tag_short (Held value) fits = let short = held_short value fits in omega (arith, short)

pub birth_long : (node : ℕ) (h : List ℕ) → IsRecord (Birth node h) → length (text_of_record (Birth node h)) ≡ 35
unfolding record_text tagged birth bytes_of
birth_long node h fits = short_birth node h fits.1.1.0

-- after its tag it is that of what it holds
pub foreign_long : (s : Signed) → length (text_of_record (Foreign s)) ≡ 1 + length (text_of_signed s)
unfolding record_text tagged number numeral
foreign_long s = omega arith

pub conviction_long : (p : Proof) → length (text_of_record (Conviction p)) ≡ 1 + length (text_of_proof p)
unfolding record_text tagged number numeral
conviction_long p = omega arith

pub held_long : (v : List ℕ) → length (text_of_record (Held v)) ≡ 1 + length v
unfolding record_text tagged number numeral rest_of
held_long v = omega arith

-- the text of a record has at most 1,096,360 bytes
pub record_short : (r : Record) → IsRecord r → length (text_of_record r) ≤ 1096360
unfolding record_text
record_short r fits = omega (arith, length-append ((number w8 1 6).text (tag_of r)) ((tagged (tag_of r)).text r), tag_short (tag_of r) fits.0, behind_tag_short r fits.1)

pub text_short : (r : Record) (text : List ℕ) → IsTextOf r text → length text ≤ 1096360
text_short r text t = omega (arith, ap length t.is, record_short r t.fits)
