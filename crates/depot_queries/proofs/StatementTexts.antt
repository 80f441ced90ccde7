-- The statements that the records of a journal hold, and their texts.
use Rattle.std.proofs.Common.{◌≡◌, ℕ, suc, ◌^◌, ◌<◌, ◌≤◌, List, [], ◌∷◌, length, map, take, drop, Some, Option, refl, sym, ap, subst, ◌∙◌, arith, inl, inr}
use Rattle.std.specs.Prelude.{slice_get, option_map, Result, Ok, Err, IfOk}
use Rattle.std.specs.Int.{w32, from_be_bytes}
use Rattle.std.specs.Option.{option_map_or}
use Rattle.std.proofs.lemmas.List.{length-take, length-drop}
use Rattle.std.proofs.lemmas.Option.{slice_get-map}
use Rattle.std.proofs.lemmas.Result.{IfOk-weaker}
use Rattle.depot_base.specs.Statement.{seq_of}
use Rattle.depot_base.specs.declared.key.PublicKey.{PublicKey}
use Rattle.depot_base.specs.declared.update.Update.{Update}
use Rattle.depot_base.specs.declared.statement.Statement.{Statement}
use Rattle.depot_base.specs.declared.statement.Statement.TheVariants as statements
use Rattle.depot_base.specs.declared.statement.Signed.{Signed}
use Rattle.depot_base.specs.declared.record.Record.{Record}
use Rattle.depot_base.specs.declared.record.Record.TheVariants.{Birth, OwnPut, OwnVoucher, Foreign, Conviction, Held}
use Rattle.depot_model.specs.exchange.Bundle.{Signs, signed_by, signed_with}
use Rattle.depot_model.specs.checks.Checks.{Setting}
use Rattle.depot_model.specs.journals.Journal.{own, own_by}
use Rattle.depot_model.specs.journals.Lawful.{MayFollow, IsLawful}
use Rattle.depot_model.specs.lists.Lists.{IsIn}
use Rattle.depot_model.specs.checks.Own.{leaf_count}
use Rattle.depot_base.specs.Cursor.{numeral}
use Rattle.depot_base.specs.Format.{number}
use Rattle.depot_model.specs.texts.Records.{record_text, tagged, text_of_record, IsTextOf}
use Rattle.depot_model.specs.texts.Roster.{key_of}
use Rattle.depot_model.specs.texts.Texts.{statement, update_fields, voucher_fields, IsStatement, text_of_statement, text_of_signed}
use Rattle.depot_model.proofs.lists.Elements.{in_at}
use Rattle.depot_model.proofs.of_texts.LogLaws.{told-numeral}
use Rattle.depot_laws.proofs.own_updates.Nexts.{next_of}
use Rattle.depot_laws.proofs.own_updates.OwnTexts.{own_statement_fits}
use Rattle.depot_laws.proofs.lists.Splits.{flat_gives, lawful_texts}
use Rattle.depot_queries.specs.SignedRecords.{IsLeafText, IsSignable, IsSignedTextOf}
use Rattle.depot_base.proofs.CallLaws.{numeral_long}
use Rattle.depot_base.proofs.GeneralLaws.{parts_at}

-- ---- the text of a place

-- the text that is at a place is that of the record there
text_of_place : (here : Setting) (J : List Record) (place : ℕ) (r : Record) (text : List ℕ) → IsLawful here J → slice_get J place ≡ Some r → slice_get (map text_of_record J) place ≡ Some text → IsTextOf r text
text_of_place here J place r text l at e =
    let same : option_map text_of_record (slice_get J place) ≡ Some text = sym (slice_get-map text_of_record J place) ∙ e in
    let is : Some (text_of_record r) ≡ Some text = ap (option_map text_of_record) (sym at) ∙ same in
    record { fits = lawful_texts here J r l (in_at J place r at); is = cc }

-- ---- the body of a statement

-- after its version, its kind and its writer comes its number
number_in_body : (s : Statement) → take 4 (drop 4 (text_of_statement s)) ≡ numeral w32 (seq_of s)
unfolding statement update_fields voucher_fields number numeral
number_in_body (statements.Update u) = refl
number_in_body (statements.Voucher v) = refl

seq_in_range : (s : Statement) → IsStatement s → seq_of s ≤ 4294967295
unfolding statement update_fields voucher_fields number
seq_in_range (statements.Update u) (version, (kind, (writer, (seq, more)))) = seq.1
seq_in_range (statements.Voucher v) (version, (kind, (node, (seq, more)))) = seq.1

-- which is read back
pub seq_in_body : (s : Statement) (body : List ℕ) → IsStatement s → body ≡ text_of_statement s → from_be_bytes w32 (take 4 (drop 4 body)) ≡ seq_of s
seq_in_body s body fits is =
    ap (λ (b : List ℕ). from_be_bytes w32 (take 4 (drop 4 b))) is ∙ ap (from_be_bytes w32) (number_in_body s) ∙ told-numeral (seq_of s) (omega (arith, seq_in_range s fits))

-- so the body is long enough for it
pub body_is_long : (s : Statement) (body : List ℕ) → body ≡ text_of_statement s → 8 ≤ length body
body_is_long s body is =
    let four : length (take 4 (drop 4 body)) ≡ 4 = ap (λ (b : List ℕ). length (take 4 (drop 4 b))) is ∙ ap length (number_in_body s) ∙ numeral_long (seq_of s) in
    omega (arith, four, length-take 4 (drop 4 body), length-drop 4 body)

-- ---- own statements

leaf_of : (here : Setting) (before : List Record) (r : Record) (s : Statement) → MayFollow here before r → IsIn s (own_by r) → seq_of s < leaf_count here.listed here.me
leaf_of here before (OwnPut u values) s may (inl is) =
    let seq : seq_of s ≡ length (own before) = ap seq_of (sym is) ∙ ap (λ (x : Update). x.seq) (next_of may) in
    omega (arith, seq, may.leaf)
leaf_of here before (OwnPut u values) s may (inr never) = absurd never
leaf_of here before (OwnVoucher v) s may (inl is) =
    let seq : seq_of s ≡ length (own before) = ap seq_of (sym is) ∙ may.seq in
    omega (arith, seq, may.leaf)
leaf_of here before (OwnVoucher v) s may (inr never) = absurd never
leaf_of here before (Birth node h) s may never = absurd never
leaf_of here before (Foreign t) s may never = absurd never
leaf_of here before (Conviction p) s may never = absurd never
leaf_of here before (Held value) s may never = absurd never

-- the leaf that signs an own statement is one of the key's tree
own_leaf : (here : Setting) (J : List Record) (place : ℕ) (r : Record) (s : Statement) (key : PublicKey) → IsLawful here J → slice_get J place ≡ Some r → IsIn s (own_by r) → key_of here.listed here.me ≡ Some key → seq_of s < 2 ^ key.height
unfolding leaf_count
own_leaf here J place r s key l at on keyed =
    let below = leaf_of here (take place J) r s (l.each (take place J) r (drop (suc place) J) (parts_at J place r at)).may on in
    let leaves : leaf_count here.listed here.me ≡ 2 ^ key.height = ap (λ (o : Option PublicKey). option_map_or (λ (k : PublicKey). 2 ^ k.height) o 0) keyed in
    subst (λ (n : ℕ). seq_of s < n) leaves below

own_text_leaf : (here : Setting) (J : List Record) (place : ℕ) (r : Record) (key : PublicKey) → IsLawful here J → key_of here.listed here.me ≡ Some key → slice_get J place ≡ Some r → (s : Statement) → IsIn s (own_by r) → IsLeafText key s (text_of_statement s)
own_text_leaf here J place r key l keyed at s on = record { fits = own_statement_fits here J s l (flat_gives own_by s r J (in_at J place r at) on); is = refl; leaf = own_leaf here J place r s key l at on keyed }

-- a record of a lawful journal that holds a statement can be signed by the node's key
pub signable_at : (here : Setting) (J : List Record) (place : ℕ) (r : Record) (text : List ℕ) (key : PublicKey) (sign : Signs) → IsLawful here J → key_of here.listed here.me ≡ Some key → slice_get (map text_of_record J) place ≡ Some text
    → slice_get J place ≡ Some r → length (signed_by sign r) ≡ 1 → IsSignable key sign r text
signable_at here J place r text key sign l keyed there at one = record { fits = text_of_place here J place r text l at there; one = one; own = own_text_leaf here J place r key l keyed at }

-- and its signed text is that of the record at the place
pub signed_at : {E : Type 0} (J : List Record) (place : ℕ) (r : Record) (text : List ℕ) (key : PublicKey) (sign : Signs) (result : Result (List ℕ) E) → slice_get J place ≡ Some r → IsSignable key sign r text → IfOk result (IsSignedTextOf key sign text)
    → IfOk result (λ made. (q : Record) → slice_get J place ≡ Some q → map text_of_signed (signed_by sign q) ≡ made ∷ [])
signed_at J place r text key sign result at can made = IfOk-weaker result (IsSignedTextOf key sign text) (λ m. (q : Record) → slice_get J place ≡ Some q → map text_of_signed (signed_by sign q) ≡ m ∷ []) (λ m each q there. (
    let both : Some r ≡ Some q = sym at ∙ there in
    let one : r ≡ q = cc in
    ap (λ (x : Record). map text_of_signed (signed_by sign x)) (sym one) ∙ each r can
    )) made

-- a statement with its text and the signature of that is the one that is signed
pub signed_by_parts : (sign : Signs) (s : Statement) (body signature : List ℕ) (seq : ℕ) → body ≡ text_of_statement s → seq ≡ seq_of s → signature ≡ sign seq body → record { statement = s; body = body; signature = signature } ≡ signed_with sign s
unfolding signed_with
signed_by_parts sign s body signature seq text number signed =
    let signature_is = signed ∙ ap (λ (n : ℕ). sign n body) number ∙ ap (sign (seq_of s)) text in
    λ i. record { statement = s; body = text i; signature = signature_is i }

-- ---- another's statement

-- after the tag of its record comes its text
foreign_record : (s : Signed) → text_of_record (Foreign s) ≡ 4 ∷ text_of_signed s
unfolding record_text tagged number numeral
foreign_record s = refl

foreign_text : (r : Record) (s : Signed) (text : List ℕ) → r ≡ Foreign s → IsTextOf r text → text ≡ 4 ∷ text_of_signed s
foreign_text r s text is t = t.is ∙ ap (λ (x : Record). text_of_record x) is ∙ foreign_record s

-- what follows the first byte, where some are given
behind_tag : {E : Type 0} (result : Result (List ℕ) E) (text rest : List ℕ) (tag : ℕ) → text ≡ tag ∷ rest → IfOk result (λ made. (n : ℕ) (ns : List ℕ) → text ≡ n ∷ ns → made ≡ ns) → IfOk result (λ made. made ≡ rest)
behind_tag (Ok made) text rest tag is each = each tag rest is
behind_tag (Err e) text rest tag is each = tt

-- ---- what is said of a place

-- what a record holds of own statements has this body
pub record IsOwnBody (r : Record) (body : List ℕ) : Type 0 where
  pub statement : Statement
  pub on : own_by r ≡ statement ∷ []
  pub is : body ≡ text_of_statement statement

own_body : (r : Record) (body : List ℕ) → body ∷ [] ≡ map text_of_statement (own_by r) → IsOwnBody r body
own_body r body e = by_list (own_by r) refl e where
  by_list : (ss : List Statement) → own_by r ≡ ss → body ∷ [] ≡ map text_of_statement ss → IsOwnBody r body
  by_list [] on same = absurd cc
  by_list (s ∷ []) on same = record { statement = s; on = on; is = cc }
  by_list (s ∷ t ∷ ss) on same = absurd cc

-- and it is one that the key signs
own_fits : {key : PublicKey} {sign : Signs} {text : List ℕ} (r : Record) (body : List ℕ) (b : IsOwnBody r body) → IsSignable key sign r text → IsLeafText key b.statement (text_of_statement b.statement)
own_fits r body b can = can.own b.statement (subst (λ (ss : List Statement). IsIn b.statement ss) (sym b.on) (inl refl))

pub own_leaf_text : {key : PublicKey} {sign : Signs} {text : List ℕ} (r : Record) (body : List ℕ) → IsSignable key sign r text → body ∷ [] ≡ map text_of_statement (own_by r) → (s : Statement) × IsLeafText key s body
own_leaf_text r body can is =
    let b = own_body r body is in
    let f = own_fits r body b can in
    (b.statement, record { fits = f.fits; is = b.is; leaf = f.leaf })

-- such a record is sent as that statement, signed now
signed_own : (sign : Signs) (r : Record) (s : Statement) → own_by r ≡ s ∷ [] → signed_by sign r ≡ signed_with sign s ∷ []
signed_own sign (OwnPut u values) s e = ap (map (signed_with sign)) e
signed_own sign (OwnVoucher v) s e = ap (map (signed_with sign)) e
signed_own sign (Birth node h) s e = absurd cc
signed_own sign (Foreign t) s e = absurd cc
signed_own sign (Conviction p) s e = absurd cc
signed_own sign (Held value) s e = absurd cc

-- and one that holds none, and is sent as one, is another's
told_by_another : (sign : Signs) (r : Record) → [] ≡ map text_of_statement (own_by r) → length (signed_by sign r) ≡ 1 → (s : Signed) × (r ≡ Foreign s)
told_by_another sign (OwnPut u values) none one = absurd cc
told_by_another sign (OwnVoucher v) none one = absurd cc
told_by_another sign (Birth node h) none one = absurd (omega (arith, one))
told_by_another sign (Foreign s) none one = (s, refl)
told_by_another sign (Conviction p) none one = absurd (omega (arith, one))
told_by_another sign (Held value) none one = absurd (omega (arith, one))

-- the text of the one signed statement that the record holds
signed_is : {E : Type 0} (key : PublicKey) (sign : Signs) (result : Result (List ℕ) E) (text : List ℕ) → ((r : Record) → IsSignable key sign r text → (s : Signed) × ((signed_by sign r ≡ s ∷ []) × IfOk result (λ made. made ≡ text_of_signed s)))
    → IfOk result (IsSignedTextOf key sign text)
signed_is key sign (Ok made) text each = λ r can. (let s = each r can in ap (map text_of_signed) s.1.0 ∙ ap (λ (x : List ℕ). x ∷ []) (sym s.1.1))
signed_is key sign (Err e) text each = tt

-- that of an own record
pub signed_is_own : {E : Type 0} (key : PublicKey) (sign : Signs) (text body : List ℕ) (result : Result (List ℕ) E) → ((r : Record) → IsTextOf r text → body ∷ [] ≡ map text_of_statement (own_by r))
    → IfOk result (λ made. (s : Statement) → IsStatement s → body ≡ text_of_statement s → made ≡ text_of_signed (signed_with sign s)) → IfOk result (IsSignedTextOf key sign text)
signed_is_own key sign text body result is made = signed_is key sign result text (λ r can. (
    let b = own_body r body (is r can.fits) in (
      signed_with sign b.statement,
      (
        signed_own sign r b.statement b.on,
        IfOk-weaker result (λ m. (s : Statement) → IsStatement s → body ≡ text_of_statement s → m ≡ text_of_signed (signed_with sign s)) (λ m. m ≡ text_of_signed (signed_with sign b.statement)) (λ m each. each b.statement (own_fits r body b can).fits b.is) made,
      ),
    )
    ))

-- and that of another's
pub signed_is_foreign : {E : Type 0} (key : PublicKey) (sign : Signs) (text : List ℕ) (result : Result (List ℕ) E) → ((r : Record) → IsTextOf r text → [] ≡ map text_of_statement (own_by r))
    → IfOk result (λ made. (n : ℕ) (ns : List ℕ) → text ≡ n ∷ ns → made ≡ ns) → IfOk result (IsSignedTextOf key sign text)
signed_is_foreign key sign text result is made = signed_is key sign result text (λ r can. (
    let another = told_by_another sign r (is r can.fits) can.one in (
      another.0,
      (ap (signed_by sign) another.1, behind_tag result text (text_of_signed another.0) 4 (foreign_text r another.0 text another.1 can.fits) made),
    )
    ))
