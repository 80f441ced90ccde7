-- The words that don't depend on what precedes them are lawful.
use Rattle.std.proofs.Common.{◌≡◌, ℕ, ◌^◌, ◌<◌, ◌≤◌, Bool, true, not, ltb, leb, eqb, ◌&&◌, List, [], ◌∷◌, length, map, Some, None, Result, Ok, Err, codes, refl, sym, ap, subst, ◌∙◌, arith, inl, inr}
use Rattle.std.specs.List.{list_all}
use Rattle.std.specs.Fmt.{decimal}
use Rattle.std.specs.Str.{bytes_eq}
use Rattle.std.proofs.lemmas.Bool.{leb-true, ltb-true, lt-ltb, and_parts, and_from, ne_eqb, or_cases}
use Rattle.depot_base.specs.declared.limits.TheConstants.{MOST_NODES}
use Rattle.depot_base.specs.declared.proof.Kind.{Kind}
use Rattle.depot_base.specs.declared.proof.Kind.TheVariants.{SameNumber, SamePrev, Backward, NotUpdate}
use Rattle.depot_base.specs.Shown.{IsPairKind}
use Rattle.depot_model.specs.texts.Lines.{name_of_kind}
use Rattle.depot_lines.specs.declared.line_fault.LineFault.{LineFault}
use Rattle.depot_lines.specs.declared.line_fault.LineFault.TheVariants as is
use Rattle.depot_lines.specs.Spelling.{is_word, is_word_byte, is_label, is_label_byte, is_letter, is_digit}
use Rattle.depot_lines.specs.Language.{split, join, Word, FitAll, with_parts, read_parts, parts_of}
use Rattle.depot_lines.specs.Vocabulary.{id, clock, any_u32, node_count, label, kind_named, kind}
use Rattle.depot_lines.proofs.LanguageLaws.{LawfulWord, need_ok, if_some, or_fault_ok, is_same, ok_is}
use Rattle.depot_lines.proofs.Splitting.{lacks, split_join, join_split, split_some, all_weaker, all_join}
use Rattle.depot_lines.proofs.NumberLaws.{number_lawful, digits_of_decimal}

-- ---- ids and numbers

pub id_lawful : {C : Type 0} → LawfulWord (id {C = C})
id_lawful = number_lawful 1 65535 (omega arith)

pub any_u32_lawful : {C : Type 0} → LawfulWord (any_u32 {C = C})
any_u32_lawful = number_lawful 0 4294967295 (omega arith)

pub clock_lawful : {C : Type 0} → LawfulWord (clock {C = C})
clock_lawful = number_lawful 1 9223372036854775807 (omega arith)

pub node_count_lawful : {C : Type 0} → LawfulWord (node_count {C = C})
node_count_lawful = number_lawful 1 MOST_NODES (omega arith)

-- ---- labels

letter_bounds : (b : ℕ) → is_letter b ≡ true → (97 ≤ b) × (b ≤ 122)
letter_bounds b e = let p = and_parts (leb 97 b) (leb b 122) e in (leb-true _ _ p.0, leb-true _ _ p.1)

label_byte_bounds : (b : ℕ) → is_label_byte b ≡ true → 48 ≤ b
label_byte_bounds b e = elim (or_cases (is_letter b) (is_digit b) e) [
  | inl l ↦ let p = letter_bounds b l in omega (arith, p.0)
  | inr d ↦ leb-true _ _ (and_parts (leb 48 b) (leb b 57) d).0
]

-- bytes from 48 on are neither space nor LF, comma nor dot
above_is_plain : (b : ℕ) → 48 ≤ b → is_word_byte b ≡ true
above_is_plain b ge = rw (ne_eqb b 32 (λ x. omega arith), ne_eqb b 10 (λ x. omega arith)) refl

above_is_no : (c b : ℕ) → c < 48 → 48 ≤ b → not (eqb b c) ≡ true
above_is_no c b lt ge = rw (ne_eqb b c (λ x. omega arith)) refl

label_bytes : (l : List ℕ) → is_label l ≡ true → (0 < length l) × (list_all is_label_byte l ≡ true)
label_bytes [] e = absurd cc
label_bytes (b ∷ bs) e =
    let p = and_parts (is_letter b && list_all is_label_byte bs) (leb (length bs) 31) e in
    let q = and_parts (is_letter b) (list_all is_label_byte bs) p.0 in
    (omega arith, and_from (is_label_byte b) (list_all is_label_byte bs) (rw q.0 refl) q.1)

pub label_lacks : (c : ℕ) → c < 48 → (l : List ℕ) → is_label l ≡ true → lacks c l ≡ true
label_lacks c lt l e = all_weaker is_label_byte (λ b. not (eqb b c)) (λ b is. above_is_no c b lt (label_byte_bounds b is)) l (label_bytes l e).1

pub plain_label : (l : List ℕ) → is_label l ≡ true → is_word l ≡ true
plain_label l e =
    let p = label_bytes l e in
    and_from _ _ (lt-ltb _ _ p.0) (all_weaker is_label_byte is_word_byte (λ b is. above_is_plain b (label_byte_bounds b is)) l p.1)

pub label_lawful : {C : Type 0} → LawfulWord (label {C = C})
label_lawful {C = C} = record {
  takes = λ c t l e.
      let n = need_ok (is_label t) (Ok t) is.Label l e in
      subst (λ (x : List ℕ). (is_label x ≡ true) × (t ≡ x)) (ok_is t l n.1) (n.0, refl);
  again = λ c l fits. rw fits refl;
  plain = λ c l fits. plain_label l fits;
}

-- ---- kinds

kind_is : (t : List ℕ) (k : Kind) → kind_named t ≡ Some k → IsPairKind k × (t ≡ name_of_kind k)
kind_is t k e =
    elim (if_some (bytes_eq t (codes "SameNumber")) SameNumber _ k e) [
      | inl a ↦ rw (← a.1) (tt, is_same t _ a.0)
      | inr a ↦ elim (if_some (bytes_eq t (codes "SamePrev")) SamePrev _ k a.1) [
        | inl b ↦ rw (← b.1) (tt, is_same t _ b.0)
        | inr b ↦ elim (if_some (bytes_eq t (codes "Backward")) Backward None k b.1) [
          | inl d ↦ rw (← d.1) (tt, is_same t _ d.0)
          | inr d ↦ absurd cc
        ]
      ]
    ]

kind_again : {C : Type 0} (c : C) (k : Kind) → IsPairKind k → kind.read c (name_of_kind k) ≡ Ok k
kind_again c SameNumber fits = refl
kind_again c SamePrev fits = refl
kind_again c Backward fits = refl
kind_again c NotUpdate fits = absurd fits

kind_plain : (k : Kind) → is_word (name_of_kind k) ≡ true
kind_plain SameNumber = refl
kind_plain SamePrev = refl
kind_plain Backward = refl
kind_plain NotUpdate = refl

pub kind_lawful : {C : Type 0} → LawfulWord (kind {C = C})
kind_lawful {C = C} = record {
  takes = λ c t k e. kind_is t k (or_fault_ok (kind_named t) is.Label k e);
  again = kind_again;
  plain = λ c k fits. kind_plain k;
}

-- ---- digits

pub digits_lack : (c n : ℕ) → c < 48 → n < 10 ^ 19 → lacks c (decimal n) ≡ true
digits_lack c n lt small = all_weaker is_digit (λ b. not (eqb b c)) (λ b e. above_is_no c b lt (leb-true _ _ (and_parts (leb 48 b) (leb b 57) e).0)) (decimal n) (digits_of_decimal n small)

-- ---- parts

parts_ok : {A : Type 0} (a : Result A LineFault) (rest : Result (List A) LineFault) (list : List A) → with_parts a rest ≡ Ok list → (x : A) × (xs : List A) × (a ≡ Ok x) × (rest ≡ Ok xs) × (x ∷ xs ≡ list)
parts_ok (Ok x) (Ok xs) list e = (x, xs, refl, refl, ok_is (x ∷ xs) list e)
parts_ok (Ok x) (Err g) list e = absurd cc
parts_ok (Err f) (Ok xs) list e = absurd cc
parts_ok (Err f) (Err g) list e = absurd cc

parts_take : {C A : Type 0} (first : Word C A) → LawfulWord first → (c : C) (ws : List (List ℕ)) (list : List A) → read_parts (first.read c) ws ≡ Ok list → FitAll (first.fits c) list × (ws ≡ map first.text list)
parts_take {A = A} first l c [] list e = subst (λ (x : List A). FitAll (first.fits c) x × ([] ≡ map first.text x)) (ok_is [] list e) (tt, refl)
parts_take {A = A} first l c (w ∷ ws) list e =
    let p = parts_ok (first.read c w) (read_parts (first.read c) ws) list e in
    let t = l.takes c w p.0 p.2 in
    let r = parts_take first l c ws p.1 p.3 in
    let words : w ∷ ws ≡ first.text p.0 ∷ map first.text p.1 = ap (λ (x : List ℕ). x ∷ ws) t.1 ∙ ap (λ (x : List (List ℕ)). first.text p.0 ∷ x) r.1 in
    subst (λ (x : List A). FitAll (first.fits c) x × (w ∷ ws ≡ map first.text x)) p.4 ((t.0, r.0), words)

parts_again : {C A : Type 0} (first : Word C A) → LawfulWord first → (c : C) (list : List A) → FitAll (first.fits c) list → read_parts (first.read c) (map first.text list) ≡ Ok list
parts_again first l c [] fits = refl
parts_again first l c (a ∷ rest) fits = rw (l.again c a fits.0, parts_again first l c rest fits.1) refl

fit_all : {C A : Type 0} (first : Word C A) (p : List ℕ → Bool) (c : C) → ((a : A) → first.fits c a → p (first.text a) ≡ true) → (list : List A) → FitAll (first.fits c) list → list_all p (map first.text list) ≡ true
fit_all first p c to [] fits = refl
fit_all first p c to (a ∷ rest) fits = and_from _ _ (to a fits.0) (fit_all first p c to rest fits.1)

word_bytes : (w : List ℕ) → is_word w ≡ true → list_all is_word_byte w ≡ true
word_bytes w e = (and_parts (ltb 0 (length w)) (list_all is_word_byte w) e).1

some_map : {A B : Type 0} (f : A → B) (xs : List A) → 0 < length xs → 0 < length (map f xs)
some_map f [] some = absurd (omega arith)
some_map f (x ∷ xs) some = omega arith

some_from_map : {A B : Type 0} (f : A → B) (xs : List A) → 0 < length (map f xs) → 0 < length xs
some_from_map f [] some = absurd (omega arith)
some_from_map f (x ∷ xs) some = omega arith

word_length : (w : List ℕ) → is_word w ≡ true → 0 < length w
word_length w e = ltb-true _ _ (and_parts (ltb 0 (length w)) (list_all is_word_byte w) e).0

join_some : (w : List ℕ) (ws : List (List ℕ)) → 0 < length w → 0 < length (join 44 (w ∷ ws))
join_some w [] some = some
join_some w (v ∷ vs) some = omega (arith, Rattle.std.proofs.Common.length-append w (44 ∷ join 44 (v ∷ vs)))

parts_plain : {C A : Type 0} (first : Word C A) → LawfulWord first → (c : C) (list : List A) → 0 < length list → FitAll (first.fits c) list → is_word (join 44 (map first.text list)) ≡ true
parts_plain first l c [] some fits = absurd (omega arith)
parts_plain first l c (a ∷ rest) some fits =
    let front : 0 < length (first.text a) = word_length (first.text a) (l.plain c a fits.0) in
    let bytes = fit_all first (list_all is_word_byte) c (λ b f. word_bytes (first.text b) (l.plain c b f)) (a ∷ rest) fits in
    and_from _ _ (lt-ltb _ _ (join_some (first.text a) (map first.text rest) front)) (all_join is_word_byte 44 refl (map first.text (a ∷ rest)) bytes)

pub parts_lawful : {C A : Type 0} (first : Word C A) → LawfulWord first → ((c : C) (a : A) → first.fits c a → lacks 44 (first.text a) ≡ true) → LawfulWord (parts_of first)
parts_lawful {A = A} first l bare = record {
  takes = λ c t list e.
      let p = parts_take first l c (split 44 t) list e in
      let text : t ≡ join 44 (map first.text list) = sym (join_split 44 t) ∙ ap (λ (x : List (List ℕ)). join 44 x) p.1 in
      let some : 0 < length list = some_from_map first.text list (subst (λ (x : List (List ℕ)). 0 < length x) p.1 (split_some 44 t)) in
      ((some, p.0), text);
  again = λ c list fits.
      let none = fit_all first (lacks 44) c (bare c) list fits.1 in
      rw (split_join 44 (map first.text list) (some_map first.text list fits.0) none) (parts_again first l c list fits.1);
  plain = λ c list fits. parts_plain first l c list fits.0 fits.1;
}
