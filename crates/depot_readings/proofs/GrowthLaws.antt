-- Growths of one record, and of a conviction and a statement.
use Rattle.std.proofs.Common.{◌≡◌, ℕ, ◌+◌, List, [], ◌∷◌, length, map, Some, None, refl, sym, ap, subst, ◌∙◌, arith}
use Rattle.std.specs.Global.{Vec}
use Rattle.std.specs.List.{AllByRecursion}
use Rattle.std.proofs.lemmas.List.Sums.{sum_by-cons}
use Rattle.depot_base.specs.WithRest.{with_rest}
use Rattle.depot_base.specs.declared.record.Record.{Record}
use Rattle.depot_base.specs.declared.record.Record.TheVariants.{Foreign, Conviction}
use Rattle.depot_base.specs.declared.proof.Proof.{Proof}
use Rattle.depot_base.specs.declared.statement.Signed.{Signed}
use Rattle.depot_base.specs.declared.voucher.Voucher.{Voucher}
use Rattle.depot_base.proofs.WithRestLaws.{rest_none}
use Rattle.depot_model.specs.texts.Records.{IsRecord, text_of_record}
use Rattle.depot_model.specs.texts.Texts.{IsProof, IsSigned, id_of_statement, text_of_signed}
use Rattle.depot_model.specs.checks.Vouching.{records_of}
use Rattle.depot_laws.proofs.records.LawfulRecords.{IsRecord-Conviction, IsRecord-Foreign}
use Rattle.depot_readings.specs.NewRecords.{AreHashed, IsGrowth, bytes_of_records, records_in, vouchers_of}
use Rattle.depot_readings.specs.RecordTexts.{given_of}
use Rattle.depot_readings.specs.declared.news.News.{News}
use Rattle.depot_readings.specs.declared.news.News.TheVariants as news
use Rattle.depot_readings.proofs.RecordTextLaws.{foreign_long}

-- ---- bytes

one_takes : (r : Record) → bytes_of_records (r ∷ []) ≡ 5 + length (text_of_record r)
one_takes r = omega (arith, sum_by-cons (λ (x : Record). 5 + length (text_of_record x)) r [])

both_take : (r t : Record) → bytes_of_records (r ∷ t ∷ []) ≡ (5 + length (text_of_record r)) + (5 + length (text_of_record t))
both_take r t = omega (arith, sum_by-cons (λ (x : Record). 5 + length (text_of_record x)) r (t ∷ []), one_takes t)

-- ---- one record

-- whose text isn't encoded yet
pub one_read : (n : News) (r : Record) (bytes : ℕ) → records_in n ≡ r ∷ [] → IsRecord r → AreHashed n → bytes ≡ 5 + length (text_of_record r) → IsGrowth n bytes None
one_read n r bytes is fits hashed size = record {
  fit = subst (λ (rs : List Record). AllByRecursion IsRecord rs) (sym is) (fits, tt);
  sum = size ∙ sym (one_takes r) ∙ ap bytes_of_records (sym is);
  hashed = hashed;
  few = omega (arith, ap length is);
  written = tt;
}

-- whose text is given; it is no statement of another
pub one_made : (n : News) (r : Record) (bytes : ℕ) (texts : Vec (List ℕ)) (text : List ℕ) → records_in n ≡ r ∷ [] → given_of (r ∷ []) ≡ [] → IsRecord r → AreHashed n → bytes ≡ 5 + length text → texts.items ≡ text ∷ [] → text ≡ text_of_record r → IsGrowth n bytes (Some texts)
one_made n r bytes texts text is none fits hashed size are same = record {
  fit = subst (λ (rs : List Record). AllByRecursion IsRecord rs) (sym is) (fits, tt);
  sum = size ∙ ap (λ (t : List ℕ). 5 + length t) same ∙ sym (one_takes r) ∙ ap bytes_of_records (sym is);
  hashed = hashed;
  few = omega (arith, ap length is);
  written = ap (λ (rs : List Record). with_rest texts.items (given_of rs)) is ∙ ap (with_rest texts.items) none ∙ rest_none texts.items ∙ are ∙ ap (λ (t : List ℕ). t ∷ []) same ∙ ap (map text_of_record) (sym is);
}

-- ---- a conviction and a statement

pub both_made : (p : Proof) (s : Signed) (id : List ℕ) (parents : Vec ℕ) (bytes : ℕ) (texts : Vec (List ℕ)) (text : List ℕ) → IsProof p → IsSigned s → id ≡ id_of_statement s.statement → bytes ≡ (5 + length text) + (6 + length (text_of_signed s)) → text ≡ text_of_record (Conviction p)
    → with_rest texts.items (text_of_signed s) ≡ text ∷ text_of_record (Foreign s) ∷ [] → IsGrowth (news.Convicting p s id parents) bytes (Some texts)
both_made p s id parents bytes texts text proof signed own sum is are = record {
  fit = (IsRecord-Conviction p proof, (IsRecord-Foreign s signed, tt));
  sum = omega (arith, sum, ap length is, foreign_long s, both_take (Conviction p) (Foreign s));
  hashed = own;
  few = omega arith;
  written = are ∙ ap (λ (t : List ℕ). t ∷ text_of_record (Foreign s) ∷ []) is;
}

-- ---- own vouchers

none_given : (vs : List Voucher) → given_of (records_of vs) ≡ []
none_given [] = refl
none_given (v ∷ []) = refl
none_given (v ∷ w ∷ vs) = none_given (w ∷ vs)

-- nothing goes after their texts
pub vouchers_written : (vs : List Voucher) (texts : List (List ℕ)) → texts ≡ map text_of_record (records_of vs) → with_rest texts (given_of (records_of vs)) ≡ map text_of_record (records_of vs)
vouchers_written vs texts are = ap (with_rest texts) (none_given vs) ∙ rest_none texts ∙ are

-- ---- what was given

-- nothing goes after the texts where no statement of another comes last
pub nothing_given : (n : News) → ((s : Signed) (id : List ℕ) (parents : Vec ℕ) → n ≡ news.Foreign s id parents → ⊥) → ((p : Proof) (s : Signed) (id : List ℕ) (parents : Vec ℕ) → n ≡ news.Convicting p s id parents → ⊥) → given_of (records_in n) ≡ []
nothing_given news.Nothing h k = refl
nothing_given (news.Birth node roster) h k = refl
nothing_given (news.Put u values id parents) h k = refl
nothing_given (news.Foreign s id parents) h k = absurd (h s id parents refl)
nothing_given (news.Convicting p s id parents) h k = absurd (k p s id parents refl)
nothing_given (news.Conviction p) h k = refl
nothing_given (news.Held value hash) h k = refl
nothing_given (news.Vouchers xs) h k = none_given (vouchers_of xs)
