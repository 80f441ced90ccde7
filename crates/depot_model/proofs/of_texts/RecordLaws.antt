-- The text of a record is lawful.
use Rattle.std.proofs.Common.{◌≡◌, ℕ, zero, suc, ◌+◌, ◌*◌, ◌≤◌, eqb, Some, List, [], ◌∷◌, map, ◌++◌, length, take, drop, refl, ap, ◌∙◌, arith}
use Rattle.std.specs.Int.{w8, w32, from_be_bytes}
use Rattle.std.specs.Prelude.{sum}
use Rattle.std.specs.List.{AllByRecursion, flat_map}
use Rattle.std.proofs.lemmas.List.Sums.{sum_by-cons}
use Rattle.std.proofs.lemmas.List.{take_at, drop_at, append-nil, length-append}
use Rattle.depot_base.specs.Cursor.{numeral}
use Rattle.depot_base.specs.Format.{number, inner, HasPart}
use Rattle.depot_base.specs.Parts.{digest}
use Rattle.depot_base.specs.Writes.{values_in, value_in, sizes_of}
use Rattle.depot_base.specs.declared.update.NamedValue.{NamedValue}
use Rattle.depot_base.specs.declared.write.Wrote.{Wrote}
use Rattle.depot_base.specs.declared.write.Wrote.TheVariants.{Put, Gone}
use Rattle.depot_base.specs.declared.write.Write.{Write}
use Rattle.depot_base.specs.Closed.{closing, rest_of}
use Rattle.depot_base.specs.declared.update.Update.{Update}
use Rattle.depot_base.specs.declared.voucher.Voucher.{Voucher}
use Rattle.depot_base.specs.declared.statement.Signed.{Signed}
use Rattle.depot_base.specs.declared.statement.Statement.TheVariants as statements
use Rattle.depot_base.specs.declared.proof.Proof.{Proof}
use Rattle.depot_base.specs.declared.record.Record.{Record}
use Rattle.depot_base.specs.declared.record.Record.TheVariants.{Birth, OwnPut, OwnVoucher, Foreign, Conviction, Held}
use Rattle.depot_base.proofs.FormatLaws.{weaken}
use Rattle.depot_base.proofs.Numbers.{number_within}
use Rattle.depot_base.proofs.Combined.{inner_lawful, inner_count, made_lawful, field_lawful}
use Rattle.depot_base.proofs.PartLaws.{u8_lawful, u32_lawful, node_lawful, digest_lawful, pieces_lawful}
use Rattle.depot_base.proofs.PieceLaws.{text_of_pieces}
use Rattle.depot_base.proofs.ClosedLaws.{LawfulClosed, closing_lawful, rest_lawful, before_lawful, closed_variant_lawful, closed_choose_lawful, weaken_closed}
use Rattle.depot_base.proofs.CallLaws.{numeral_long}
use Rattle.depot_model.specs.texts.Texts.{update_body, voucher_body, statement, signed, proof, IsUpdate, text_of_update, text_of_statement}
use Rattle.depot_model.specs.texts.Records.{text_of_put_values, as_birth, as_own_put, as_own_voucher, as_foreign, as_conviction, as_held, birth, own_put, tag_of, tagged, record_text, IsRecord, text_of_record}
use Rattle.depot_model.proofs.of_texts.FieldFacts.{WriteFacts, update_facts, own_put_facts}
use Rattle.depot_model.proofs.of_texts.LogLaws.{told-numeral}
use Rattle.depot_model.proofs.of_texts.TextLaws.{update_is_short, update_body_lawful, voucher_body_lawful, signed_lawful, proof_lawful}

-- ---- what follows a tag

birth_lawful : LawfulClosed birth 34
unfolding birth
birth_lawful = closing_lawful _ 34
    (field_lawful _ _ _ 2 32 node_lawful (λ a b f h. ap (λ (x : ℕ × List ℕ). x.0) h.1) λ node _.
    field_lawful _ _ _ 32 0 digest_lawful (λ a b f h. ap (λ (x : ℕ × List ℕ). x.1) h) λ roster _.
    made_lawful _)

-- the sum of the lengths that a write names, and those after it
one_size : (what : Wrote) (more : List NamedValue) → AllByRecursion (λ n. digest.fits n.hash × (n.size ≤ 65536)) (value_in what) → sum (map (λ n. n.size) (value_in what ++ more)) ≤ 65536 + sum (map (λ n. n.size) more)
one_size (Put hash size) more small = omega (arith, small.0.1, sum_by-cons (λ x. x) size (map (λ n. n.size) more))
one_size Gone more small = omega arith

all_sizes : (ws : List Write) → AllByRecursion WriteFacts ws → sum (sizes_of ws) ≤ length ws * 65536
all_sizes [] each = omega arith
all_sizes (w ∷ ws) each = omega (arith, one_size w.what (values_in ws) each.0.value, all_sizes ws each.1)

-- the values that an update names have at most 1,048,576 bytes together
pub short_values : (u : Update) → IsUpdate u → sum (sizes_of u.writes) ≤ 1048576
short_values u fits = let f = (update_facts u fits).writes in omega (arith, all_sizes u.writes f.each, f.few)

own_put_lawful : LawfulClosed own_put 1096359
unfolding own_put inner
own_put_lawful =
    before_lawful _ _ _ 4 1096355 (u32_lawful 0 4294967295 (omega arith)) (λ a p f h. inner_count a update_body p.0 h.0) λ body_length _.
    before_lawful _ _ _ 47779 1048576 (inner_lawful update_body 47779 body_length update_body_lawful) (λ a p f h. ap (λ (x : Update × List (List ℕ)). x.0) h.1) λ update body.
    closing_lawful _ 1048576
    (field_lawful _ _ _ 1048576 0 (weaken _ (sum (sizes_of update.writes)) 1048576 (short_values update body.0) (pieces_lawful (sizes_of update.writes))) (λ a p f h. ap (λ (x : Update × List (List ℕ)). x.1) h) λ values _.
    made_lawful _)

-- ---- a record of a kind is made of its part

is_birth : (r : Record) (b : ℕ × List ℕ) → as_birth r ≡ Some b → r ≡ Birth b.0 b.1
is_birth (Birth node roster) b e = let p : (node, roster) ≡ b = cc in ap (λ (x : ℕ × List ℕ). Birth x.0 x.1) p
is_birth r b e = absurd cc

is_own_put : (r : Record) (p : Update × List (List ℕ)) → as_own_put r ≡ Some p → r ≡ OwnPut p.0 p.1
is_own_put (OwnPut u values) p e = let q : (u, values) ≡ p = cc in ap (λ (x : Update × List (List ℕ)). OwnPut x.0 x.1) q
is_own_put r p e = absurd cc

is_own_voucher : (r : Record) (v : Voucher) → as_own_voucher r ≡ Some v → r ≡ OwnVoucher v
is_own_voucher (OwnVoucher w) v e = let p : w ≡ v = cc in ap (λ (x : Voucher). OwnVoucher x) p
is_own_voucher r v e = absurd cc

is_foreign : (r : Record) (s : Signed) → as_foreign r ≡ Some s → r ≡ Foreign s
is_foreign (Foreign t) s e = let p : t ≡ s = cc in ap (λ (x : Signed). Foreign x) p
is_foreign r s e = absurd cc

is_conviction : (r : Record) (p : Proof) → as_conviction r ≡ Some p → r ≡ Conviction p
is_conviction (Conviction q) p e = let same : q ≡ p = cc in ap (λ (x : Proof). Conviction x) same
is_conviction r p e = absurd cc

is_held : (r : Record) (v : List ℕ) → as_held r ≡ Some v → r ≡ Held v
is_held (Held w) v e = let p : w ≡ v = cc in ap (λ (x : List ℕ). Held x) p
is_held r v e = absurd cc

-- ---- the tag tells the kind

birth_tag : (fits : (ℕ × List ℕ) → Type 0) (r : Record) → HasPart fits (as_birth r) → tag_of r ≡ 1
birth_tag fits (Birth node roster) h = refl
birth_tag fits r h = absurd h

own_put_tag : (fits : (Update × List (List ℕ)) → Type 0) (r : Record) → HasPart fits (as_own_put r) → tag_of r ≡ 2
own_put_tag fits (OwnPut u values) h = refl
own_put_tag fits r h = absurd h

own_voucher_tag : (fits : Voucher → Type 0) (r : Record) → HasPart fits (as_own_voucher r) → tag_of r ≡ 3
own_voucher_tag fits (OwnVoucher v) h = refl
own_voucher_tag fits r h = absurd h

foreign_tag : (fits : Signed → Type 0) (r : Record) → HasPart fits (as_foreign r) → tag_of r ≡ 4
foreign_tag fits (Foreign s) h = refl
foreign_tag fits r h = absurd h

conviction_tag : (fits : Proof → Type 0) (r : Record) → HasPart fits (as_conviction r) → tag_of r ≡ 5
conviction_tag fits (Conviction p) h = refl
conviction_tag fits r h = absurd h

held_tag : (fits : List ℕ → Type 0) (r : Record) → HasPart fits (as_held r) → tag_of r ≡ 6
held_tag fits (Held v) h = refl
held_tag fits r h = absurd h

tag_is : (a : ℕ) (r : Record) → 1 ≤ a → a ≤ 6 → (tagged a).fits r → tag_of r ≡ a
unfolding tagged
tag_is zero r low high h = absurd (omega arith)
tag_is (suc zero) r low high h = birth_tag _ r h
tag_is (suc (suc zero)) r low high h = own_put_tag _ r h
tag_is (suc (suc (suc zero))) r low high h = own_voucher_tag _ r h
tag_is (suc (suc (suc (suc zero)))) r low high h = foreign_tag _ r h
tag_is (suc (suc (suc (suc (suc zero))))) r low high h = conviction_tag _ r h
tag_is (suc (suc (suc (suc (suc (suc zero)))))) r low high h = held_tag _ r h
tag_is (suc (suc (suc (suc (suc (suc (suc n))))))) r low high h = absurd (omega arith)

tagged_lawful : (tag : ℕ) → LawfulClosed (tagged tag) 1096359
unfolding tagged
tagged_lawful tag =
    closed_choose_lawful (eqb tag 1) _ _ 1096359 (closed_variant_lawful (λ b. Birth b.0 b.1) as_birth birth 1096359 (λ b. refl) is_birth (weaken_closed _ 34 1096359 (omega arith) birth_lawful))
    (closed_choose_lawful (eqb tag 2) _ _ 1096359 (closed_variant_lawful (λ p. OwnPut p.0 p.1) as_own_put own_put 1096359 (λ p. refl) is_own_put own_put_lawful)
    (closed_choose_lawful (eqb tag 3) _ _ 1096359 (closed_variant_lawful (λ v. OwnVoucher v) as_own_voucher (closing voucher_body) 1096359 (λ v. refl) is_own_voucher (weaken_closed _ 8202 1096359 (omega arith) (closing_lawful _ 8202 voucher_body_lawful)))
    (closed_choose_lawful (eqb tag 4) _ _ 1096359 (closed_variant_lawful (λ s. Foreign s) as_foreign (closing signed) 1096359 (λ s. refl) is_foreign (weaken_closed _ 55979 1096359 (omega arith) (closing_lawful _ 55979 signed_lawful)))
    (closed_choose_lawful (eqb tag 5) _ _ 1096359 (closed_variant_lawful (λ p. Conviction p) as_conviction (closing proof) 1096359 (λ p. refl) is_conviction (weaken_closed _ 121521 1096359 (omega arith) (closing_lawful _ 121521 proof_lawful)))
    (closed_variant_lawful (λ v. Held v) as_held (rest_of 65536) 1096359 (λ v. refl) is_held (weaken_closed _ 65536 1096359 (omega arith) (rest_lawful 65536)))))))

-- A record's text is read back, and each fault is found where it is.
pub record_text_lawful : LawfulClosed record_text 1096360
unfolding record_text
record_text_lawful =
    before_lawful (number w8 1 6) tag_of tagged 1 1096359 (u8_lawful 1 6 (omega arith)) (λ a r f h. let w = number_within w8 1 6 a f in tag_is a r w.0 w.1 h) λ tag _. tagged_lawful tag

-- ---- what is in the text of an own record

-- its update fits
pub update_of_own_put : (u : Update) (values : List (List ℕ)) → IsRecord (OwnPut u values) → IsUpdate u
update_of_own_put u values fits = (own_put_facts u values fits).update

-- the tag, the length of the body, the body and the values
pub own_put_text : (u : Update) (values : List (List ℕ)) → text_of_record (OwnPut u values) ≡ 2 ∷ (numeral w32 (length (text_of_update u)) ++ (text_of_update u ++ text_of_put_values u values))
unfolding record_text tagged own_put number inner numeral
own_put_text u values = rw (append-nil (text_of_put_values u values)) refl

-- the values come one after another
pub values_text : (u : Update) (values : List (List ℕ)) → IsRecord (OwnPut u values) → text_of_put_values u values ≡ flat_map (λ v. v) values
values_text u values fits = text_of_pieces (sizes_of u.writes) values (own_put_facts u values fits).long

-- the length is read back
pub length_in_own_put : (text : List ℕ) (u : Update) (values : List (List ℕ)) → IsRecord (OwnPut u values) → text ≡ text_of_record (OwnPut u values) → from_be_bytes w32 (take 4 (drop 1 text)) ≡ length (text_of_update u)
length_in_own_put text u values fits is =
    let n = length (text_of_update u) in
    let written : take 4 (drop 1 text) ≡ numeral w32 n = ap (λ (l : List ℕ). take 4 (drop 1 l)) (is ∙ own_put_text u values) ∙ take_at (numeral w32 n) (text_of_update u ++ text_of_put_values u values) 4 (numeral_long n) in
    ap (from_be_bytes w32) written ∙ told-numeral n (omega (arith, update_is_short u (update_of_own_put u values fits)))

-- so the body is found after it
pub body_in_own_put : (text : List ℕ) (u : Update) (values : List (List ℕ)) → IsRecord (OwnPut u values) → text ≡ text_of_record (OwnPut u values)
    → take (from_be_bytes w32 (take 4 (drop 1 text))) (drop 5 text) ≡ text_of_update u
body_in_own_put text u values fits is =
    let body = text_of_update u in
    let n = length body in
    let rest = text_of_put_values u values in
    let count : from_be_bytes w32 (take 4 (drop 1 text)) ≡ n = length_in_own_put text u values fits is in
    let behind : drop 5 text ≡ body ++ rest = ap (λ (l : List ℕ). drop 5 l) (is ∙ own_put_text u values) ∙ drop_at (numeral w32 n) (body ++ rest) 4 (numeral_long n) in
    ap (λ (k : ℕ). take k (drop 5 text)) count ∙ ap (λ (l : List ℕ). take n l) behind ∙ take_at body rest n refl

-- an own update's record is long enough
pub long_own_put : (text : List ℕ) (u : Update) (values : List (List ℕ)) → text ≡ text_of_record (OwnPut u values) → length text ≡ 5 + length (text_of_update u) + length (text_of_put_values u values)
long_own_put text u values is =
    let n = length (text_of_update u) in
    omega (arith, ap length (is ∙ own_put_text u values), length-append (numeral w32 n) (text_of_update u ++ text_of_put_values u values), length-append (text_of_update u) (text_of_put_values u values), numeral_long n)

-- an own voucher's record is a tag, and then its body
pub own_voucher_text : (v : Voucher) → text_of_record (OwnVoucher v) ≡ 3 ∷ text_of_statement (statements.Voucher v)
unfolding record_text tagged voucher_body statement number numeral
own_voucher_text v = refl
