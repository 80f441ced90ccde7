-- Lines are read back from a text of lines; and what an answer that reads a text says of that text.
use Rattle.std.proofs.Common.{◌≡◌, ℕ, ◌<◌, ◌≤◌, Bool, true, false, not, cond, ltb, eqb, ◌||◌, List, [], ◌∷◌, ◌++◌, length, map, Some, Result, Ok, Err, refl, sym, ap, subst, ◌∙◌, arith, inl, inr, append_assoc, ◌⊎◌}
use Rattle.std.specs.List.{list_all, flat_map, find}
use Rattle.std.proofs.lemmas.Bool.{ltb-false, le-ltb, and_parts, or_parts, not-false, not-true}
use Rattle.depot_base.proofs.FormatLaws.{guard_ok}
use Rattle.depot_lines.specs.declared.line_fault.LineFault.{LineFault}
use Rattle.depot_lines.specs.declared.line_fault.LineFault.TheVariants as is
use Rattle.depot_lines.specs.Spelling.{is_word, is_word_byte}
use Rattle.depot_lines.specs.Language.{split, join}
use Rattle.depot_lines.specs.LineTexts.{text_of_line, Line, lines_of_parts, lines_of_text, is_empty_word, are_words, in_line, checked}
use Rattle.depot_lines.proofs.LanguageLaws.{if_some}
use Rattle.depot_lines.proofs.Splitting.{lacks, split_at, split_join, join_split, split_some, all_weaker, all_join}
use Rattle.std.specs.Prelude.{IfOk}
use Rattle.depot_lines.specs.declared.line_fault.TextError.{TextError}
use Rattle.depot_lines.specs.declared.line_fault.TextError.TheVariants as error
use Rattle.depot_lines.specs.LineReading.{Parses}

-- ---- one line by its number

in_line_ok : {A : Type 0} (n : ℕ) (r : Result A LineFault) (a : A) → in_line n r ≡ Ok a → r ≡ Ok a
in_line_ok n (Ok x) a e = cc
in_line_ok n (Err f) a e = absurd cc

pub checked_ok : {A : Type 0} (n : ℕ) (line : Line) (read : List (List ℕ) → Result A LineFault) (a : A) → checked n line read ≡ Ok a → (line.ended ≡ true) × (n ≤ 100000) × (read (split 32 line.text) ≡ Ok a)
checked_ok n line read a e =
    let x = guard_ok (not line.ended) (n, is.End) (cond (ltb 100000 n) (Err (n, is.Long)) (in_line n (read (split 32 line.text)))) a e in
    let y = guard_ok (ltb 100000 n) (n, is.Long) (in_line n (read (split 32 line.text))) a x.1 in
    (not-false line.ended x.0, ltb-false _ _ y.0, in_line_ok n _ a y.1)

-- ---- lines of words

abbrev pub line_of_text : List (List ℕ) → Line
line_of_text ws = record { text = join 32 ws; ended = true }

word_lacks : (c : ℕ) → ((b : ℕ) → is_word_byte b ≡ true → not (eqb b c) ≡ true) → (w : List ℕ) → is_word w ≡ true → lacks c w ≡ true
word_lacks c to w e = all_weaker is_word_byte (λ b. not (eqb b c)) to w (and_parts (ltb 0 (length w)) (list_all is_word_byte w) e).1

not_space : (b : ℕ) → is_word_byte b ≡ true → not (eqb b 32) ≡ true
not_space b e = let p = or_parts (eqb b 32) (eqb b 10) (not-true (eqb b 32 || eqb b 10) e) in rw p.0 refl

not_end : (b : ℕ) → is_word_byte b ≡ true → not (eqb b 10) ≡ true
not_end b e = let p = or_parts (eqb b 32) (eqb b 10) (not-true (eqb b 32 || eqb b 10) e) in rw p.1 refl

split_words : (ws : List (List ℕ)) → 0 < length ws → list_all is_word ws ≡ true → split 32 (join 32 ws) ≡ ws
split_words ws some e = split_join 32 ws some (all_weaker is_word (lacks 32) (word_lacks 32 not_space) ws e)

line_lacks : (ws : List (List ℕ)) → list_all is_word ws ≡ true → lacks 10 (join 32 ws) ≡ true
line_lacks ws e = all_join (λ b. not (eqb b 10)) 32 refl ws (all_weaker is_word (lacks 10) (word_lacks 10 not_end) ws e)

pub some_word : (w : List ℕ) → is_word w ≡ true → not (is_empty_word w) ≡ true
some_word [] e = absurd cc
some_word (b ∷ bs) e = refl

pub are_words_of : (ws : List (List ℕ)) → list_all is_word ws ≡ true → are_words ws ≡ true
are_words_of ws e = all_weaker is_word (λ w. not (is_empty_word w)) some_word ws e

-- a good line is read by its words
pub checked_again : {A : Type 0} (n : ℕ) (ws : List (List ℕ)) (read : List (List ℕ) → Result A LineFault) → n ≤ 100000 → 0 < length ws → list_all is_word ws ≡ true → checked n (line_of_text ws) read ≡ in_line n (read ws)
checked_again n ws read le some e = rw (le-ltb _ _ le, split_words ws some e) refl

-- ---- texts of lines

more_lines : (l : List ℕ) (parts : List (List ℕ)) → 0 < length parts → lines_of_parts (l ∷ parts) ≡ record { text = l; ended = true } ∷ lines_of_parts parts
more_lines l [] some = absurd (omega arith)
more_lines l (p ∷ ps) some = refl

-- the lines of printed words
pub lines_again : (lines : List (List (List ℕ))) → list_all (list_all is_word) lines ≡ true → lines_of_text (flat_map text_of_line lines) ≡ map line_of_text lines
lines_again [] e = refl
lines_again (ws ∷ lines) e =
    let p = and_parts (list_all is_word ws) (list_all (list_all is_word) lines) e in
    let rest = flat_map text_of_line lines in
    let parts : split 10 (text_of_line ws ++ rest) ≡ join 32 ws ∷ split 10 rest = ap (λ (t : List ℕ). split 10 t) (append_assoc (join 32 ws) (10 ∷ []) rest) ∙ split_at 10 (join 32 ws) rest (line_lacks ws p.0) in
    ap lines_of_parts parts ∙ more_lines (join 32 ws) (split 10 rest) (split_some 10 rest) ∙ ap (λ (ls : List Line). line_of_text ws ∷ ls) (lines_again lines p.1)

abbrev pub AllEnded : List Line → Type 0
AllEnded [] = Unit {0}
AllEnded (l ∷ ls) = (l.ended ≡ true) × AllEnded ls

abbrev pub words_of_line : Line → List (List ℕ)
words_of_line l = split 32 l.text

parts_text : (parts : List (List ℕ)) → AllEnded (lines_of_parts parts) → join 10 parts ≡ flat_map text_of_line (map words_of_line (lines_of_parts parts))
parts_text [] ended = refl
parts_text ([] ∷ []) ended = refl
parts_text ((b ∷ bs) ∷ []) ended = absurd (no ended.0) where
  no : false ≡ true → ⊥
  no e = cc
parts_text (part ∷ next ∷ parts) ended =
    let rest = flat_map text_of_line (map words_of_line (lines_of_parts (next ∷ parts))) in
    ap (λ (t : List ℕ). part ++ (10 ∷ t)) (parts_text (next ∷ parts) ended.1) ∙ sym (append_assoc part (10 ∷ []) rest) ∙ ap (λ (t : List ℕ). (t ++ 10 ∷ []) ++ rest) (sym (join_split 32 part))

-- a text whose lines all end is that of its lines' words
pub lines_text : (text : List ℕ) → AllEnded (lines_of_text text) → text ≡ flat_map text_of_line (map words_of_line (lines_of_text text))
lines_text text ended = sym (join_split 10 text) ∙ parts_text (split 10 text) ended

-- ---- names of lines

-- what is found passes the test
pub found_passes : {X : Type 0} (test : X → Bool) (xs : List X) (x : X) → find test xs ≡ Some x → test x ≡ true
found_passes test [] x e = absurd cc
found_passes test (y ∷ ys) x e = elim (if_some (test y) y (find test ys) x e) [
  | inl a ↦ subst (λ (z : _). test z ≡ true) a.1 a.0
  | inr a ↦ found_passes test ys x a.1
]

-- ---- what is answered

-- what holds of each value that is read holds of one that is given
pub given_holds : {A : Type 0} (P : A → Type 0) (r : Result A TextError) (reading : Result A (ℕ × LineFault)) → Parses r reading → ((a : A) → reading ≡ Ok a → P a) → IfOk r P
given_holds P (Ok a) reading parses holds = holds a parses
given_holds P (Err error.Memory) reading parses holds = tt
given_holds P (Err (error.Line n f)) reading parses holds = tt

-- the value that is read is given, unless memory ran out
pub read_is_given : {A : Type 0} (r : Result A TextError) (reading : Result A (ℕ × LineFault)) → Parses r reading → (a : A) → reading ≡ Ok a → (r ≡ Ok a) ⊎ (r ≡ Err error.Memory)
read_is_given (Ok b) reading parses a e = inl (cc (parses, e))
read_is_given (Err error.Memory) reading parses a e = inr cc
read_is_given (Err (error.Line n f)) reading parses a e = absurd (cc (parses, e))
