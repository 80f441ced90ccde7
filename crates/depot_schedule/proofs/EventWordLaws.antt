-- The words that only lines of events have are lawful.
use Rattle.std.proofs.Common.{◌≡◌, ℕ, ◌^◌, ◌<◌, ◌≤◌, Bool, true, false, not, cond, ltb, leb, eqb, List, [], ◌∷◌, ◌++◌, length, is_some, Ok, Err, codes, refl, sym, ap, subst, ◌∙◌, arith}
use Rattle.std.specs.List.{list_all}
use Rattle.std.specs.Fmt.{decimal}
use Rattle.std.specs.Str.{bytes_eq}
use Rattle.std.proofs.lemmas.Bool.{leb-true, lt-ltb, and_parts, and_from, false_from_ne_true}
use Rattle.hex.specs.Hex.{encode_lower, lower_digits}
use Rattle.hex.proofs.HexLemmas.{length-encode_with}
use Rattle.depot_base.specs.declared.limits.TheConstants.{MOST_PIECE, MOST_STOP_CALL}
use Rattle.depot_lines.specs.declared.line_fault.LineFault.TheVariants as is
use Rattle.depot_schedule.specs.declared.event.Ref.{Ref}
use Rattle.depot_schedule.specs.declared.event.Ref.TheVariants as ref
use Rattle.depot_schedule.specs.declared.event.HistoryWord.{HistoryWord}
use Rattle.depot_schedule.specs.declared.event.HistoryWord.TheVariants.{Right, Given}
use Rattle.depot_schedule.specs.declared.schedule.Schedule.{Schedule}
use Rattle.depot_schedule.specs.declared.verb.Wanted.{Wanted}
use Rattle.depot_schedule.specs.declared.verb.Wanted.TheVariants as wanted
use Rattle.depot_lines.specs.Spelling.{is_word, is_word_byte, is_within}
use Rattle.depot_base.specs.Format.{◌>>=◌}
use Rattle.depot_lines.specs.Language.{split, join, or_none, or_empty, parts_of}
use Rattle.depot_lines.specs.Vocabulary.{id, any_u32, digest_word, label}
use Rattle.depot_schedule.specs.EventWords.{correct, faulty, seq, piece_size, stop_call, image, new_label, label_for, is_correct, is_faulty, named_by, meets, history, FitsHistory, text_of_history, FitsRef, text_of_ref, ref_of, reference_for, references_for, reference, references}
use Rattle.depot_lines.proofs.LanguageLaws.{LawfulWord, bind_ok, need_ok, is_same, such_that_lawful, or_none_lawful, or_empty_lawful, ok_is}
use Rattle.depot_lines.proofs.Splitting.{lacks, split_none, split_at, join_split, all_append}
use Rattle.depot_lines.proofs.NumberLaws.{number_or_lawful, number_lawful, plain_decimal}
use Rattle.depot_lines.proofs.HexWords.{digest_lawful}
use Rattle.depot_lines.proofs.VocabularyLaws.{id_lawful, any_u32_lawful, label_lacks, plain_label, label_lawful, digits_lack, parts_lawful}

-- ---- ids and numbers

pub correct_lawful : LawfulWord correct
correct_lawful = such_that_lawful id (λ s n. is_correct s.members n) is.Node id_lawful

pub faulty_lawful : LawfulWord faulty
faulty_lawful = such_that_lawful id (λ s n. is_faulty s.members n) is.Node id_lawful

pub seq_lawful : LawfulWord seq
seq_lawful = such_that_lawful any_u32 (λ s q. ltb q (2 ^ s.height)) is.Number any_u32_lawful

pub piece_size_lawful : {C : Type 0} → LawfulWord (piece_size {C = C})
piece_size_lawful = number_lawful 1 MOST_PIECE (omega arith)

pub stop_call_lawful : {C : Type 0} → LawfulWord (stop_call {C = C})
stop_call_lawful = number_lawful 1 MOST_STOP_CALL (omega arith)

pub image_lawful : {C : Type 0} → LawfulWord (image {C = C})
image_lawful = number_or_lawful is.Label 0 2 (omega arith)

-- ---- labels

pub new_label_lawful : LawfulWord new_label
new_label_lawful = such_that_lawful label (λ s l. not (is_some (named_by s.events l))) is.Label label_lawful

pub label_for_lawful : (asked : Wanted) → LawfulWord (label_for asked)
label_for_lawful asked = such_that_lawful label (λ s l. meets asked (named_by s.events l)) is.Label label_lawful

-- ---- histories

history_takes : (t : List ℕ) (h : HistoryWord) (b : Bool) → bytes_eq t (codes "right") ≡ b → cond b (Ok Right) ((digest_word {C = Unit {0}}).read tt t >>= λ h. Ok (Given h)) ≡ Ok h → FitsHistory h × (t ≡ text_of_history h)
history_takes t h true test e = subst (λ (x : HistoryWord). FitsHistory x × (t ≡ text_of_history x)) (ok_is Right h e) (tt, is_same t _ test)
history_takes t h false test e =
    let b = bind_ok ((digest_word {C = Unit {0}}).read tt t) (λ h. Ok (Given h)) h e in
    let d = (digest_lawful {C = Unit {0}}).takes tt t b.0 b.1 in
    subst (λ (x : HistoryWord). FitsHistory x × (t ≡ text_of_history x)) (ok_is (Given b.0) h b.2) d

not_right : (h : List ℕ) → is_within 32 32 (length h) ≡ true → bytes_eq (encode_lower h) (codes "right") ≡ false
not_right h test = false_from_ne_true _ (λ e.
    let len : 32 ≤ length h = leb-true _ _ (and_parts (leb 32 (length h)) (leb (length h) 32) test).0 in
    let d : length (encode_lower h) ≡ 5 = ap (λ (t : List ℕ). length t) (is_same (encode_lower h) (codes "right") e) in
    omega (arith, len, d, length-encode_with lower_digits h))

history_again : {C : Type 0} (c : C) (h : HistoryWord) → FitsHistory h → history.read c (text_of_history h) ≡ Ok h
history_again c Right fits = refl
history_again c (Given h) fits = rw (not_right h fits.0, (digest_lawful {C = Unit {0}}).again tt h fits) refl

history_plain : (h : HistoryWord) → FitsHistory h → is_word (text_of_history h) ≡ true
history_plain Right fits = refl
history_plain (Given h) fits = (digest_lawful {C = Unit {0}}).plain tt h fits

pub history_lawful : {C : Type 0} → LawfulWord (history {C = C})
history_lawful {C = C} = record {
  takes = λ c t h e. history_takes t h (bytes_eq t (codes "right")) refl e;
  again = history_again;
  plain = λ c h fits. history_plain h fits;
}

-- ---- references

ref_takes : (asked : Wanted) (s : Schedule) (t : List ℕ) (parts : List (List ℕ)) (r : Ref) → join 46 parts ≡ t → ref_of asked s parts ≡ Ok r → FitsRef asked s r × (t ≡ text_of_ref r)
ref_takes asked s t [] r j e = absurd cc
ref_takes asked s t (l ∷ []) r j e =
    let b = bind_ok ((label_for asked).read s l) (λ l. Ok (ref.Label l)) r e in
    let k = (label_for_lawful asked).takes s l b.0 b.1 in
    subst (λ (x : Ref). FitsRef asked s x × (t ≡ text_of_ref x)) (ok_is (ref.Label b.0) r b.2) (k.0, sym j ∙ k.1)
ref_takes asked s t (n ∷ q ∷ []) r j e =
    let b = bind_ok (id.read s n) (λ n. seq.read s q >>= λ q. cond (is_correct s.members n) (Ok (ref.Own n q)) (Err is.Node)) r e in
    let d = bind_ok (seq.read s q) (λ q. cond (is_correct s.members b.0) (Ok (ref.Own b.0 q)) (Err is.Node)) r b.2 in
    let m = need_ok (is_correct s.members b.0) (Ok (ref.Own b.0 d.0)) is.Node r d.2 in
    let k = (id_lawful {C = Schedule}).takes s n b.0 b.1 in
    let l = seq_lawful.takes s q d.0 d.1 in
    let text : t ≡ decimal b.0 ++ (46 ∷ decimal d.0) = sym j ∙ ap (λ (x : List ℕ). x ++ (46 ∷ q)) k.1 ∙ ap (λ (x : List ℕ). decimal b.0 ++ (46 ∷ x)) l.1 in
    subst (λ (x : Ref). FitsRef asked s x × (t ≡ text_of_ref x)) (ok_is (ref.Own b.0 d.0) r m.1) (((k.0, m.0), l.0), text)
ref_takes asked s t (n ∷ q ∷ x ∷ xs) r j e = absurd cc

ref_again : (asked : Wanted) (s : Schedule) (r : Ref) → FitsRef asked s r → (reference_for asked).read s (text_of_ref r) ≡ Ok r
ref_again asked s (ref.Label l) fits = rw (split_none 46 l (label_lacks 46 (omega arith) l fits.0), (label_for_lawful asked).again s l fits) refl
ref_again asked s (ref.Own n q) fits =
    let first : split 46 (decimal n ++ (46 ∷ decimal q)) ≡ decimal n ∷ split 46 (decimal q) = split_at 46 (decimal n) (decimal q) (digits_lack 46 n (omega arith) (omega (arith, fits.0.0.1))) in
    let second : split 46 (decimal q) ≡ decimal q ∷ [] = split_none 46 (decimal q) (digits_lack 46 q (omega arith) (omega (arith, fits.1.0.1))) in
    rw (first, second, (id_lawful {C = Schedule}).again s n fits.0.0, seq_lawful.again s q fits.1, fits.0.1) refl

ref_plain : (asked : Wanted) (s : Schedule) (r : Ref) → FitsRef asked s r → is_word (text_of_ref r) ≡ true
ref_plain asked s (ref.Label l) fits = plain_label l fits.0
ref_plain asked s (ref.Own n q) fits =
    let a = and_parts (ltb 0 (length (decimal n))) (list_all is_word_byte (decimal n)) (plain_decimal n (omega (arith, fits.0.0.1))) in
    let b = and_parts (ltb 0 (length (decimal q))) (list_all is_word_byte (decimal q)) (plain_decimal q (omega (arith, fits.1.0.1))) in
    let some : 0 < length (decimal n ++ (46 ∷ decimal q)) = omega (arith, Rattle.std.proofs.Common.length-append (decimal n) (46 ∷ decimal q)) in
    and_from _ _ (lt-ltb _ _ some) (all_append is_word_byte (decimal n) (46 ∷ decimal q) a.1 b.1)

-- no comma is in a reference
ref_lacks : (asked : Wanted) (s : Schedule) (r : Ref) → FitsRef asked s r → lacks 44 (text_of_ref r) ≡ true
ref_lacks asked s (ref.Label l) fits = label_lacks 44 (omega arith) l fits.0
ref_lacks asked s (ref.Own n q) fits =
    all_append (λ b. not (eqb b 44)) (decimal n) (46 ∷ decimal q) (digits_lack 44 n (omega arith) (omega (arith, fits.0.0.1))) (digits_lack 44 q (omega arith) (omega (arith, fits.1.0.1)))

pub reference_for_lawful : (asked : Wanted) → LawfulWord (reference_for asked)
reference_for_lawful asked = record {
  takes = λ s t r e. ref_takes asked s t (split 46 t) r (join_split 46 t) e;
  again = ref_again asked;
  plain = ref_plain asked;
}

pub references_for_lawful : (asked : Wanted) (most : ℕ) → LawfulWord (references_for asked most)
references_for_lawful asked most = such_that_lawful (parts_of (reference_for asked)) (λ s rs. leb (length rs) most) is.Label (parts_lawful (reference_for asked) (reference_for_lawful asked) (ref_lacks asked))

pub prev_lawful : LawfulWord (or_none reference)
prev_lawful = or_none_lawful reference (reference_for_lawful wanted.Update) (λ s. (is.Label, refl))

pub deps_lawful : LawfulWord (or_empty (references 1024))
deps_lawful = or_empty_lawful (references 1024) (references_for_lawful wanted.Update 1024) (λ s fits. omega (arith, fits.0.0)) (λ s. (is.Label, refl))
