-- Words and lines, written one after the other.
use Rattle.std.proofs.Common.{◌≡◌, ℕ, zero, suc, ◌-◌, ◌<◌, ◌≤◌, Bool, cond, List, [], ◌∷◌, ◌++◌, length, get_or, take, drop, map, Option, Some, None, sym, ap, ◌∙◌, append_assoc, arith}
use Rattle.std.specs.List.{flat_map}
use Rattle.std.proofs.lemmas.Bool.{lt-ltb}
use Rattle.std.proofs.lemmas.List.{append-nil, take_all}
use Rattle.depot_lines.specs.Language.{join}
use Rattle.depot_lines.specs.LineReading.{LineSoFar, behind_spaces, with_word, with_words, words_taken}

-- the first word, and the others after spaces
pub join-spaces : (word : List ℕ) (words : List (List ℕ)) → join 32 (word ∷ words) ≡ word ++ behind_spaces words
join-spaces word [] = sym (append-nil word)
join-spaces word (next ∷ words) = ap (λ (t : List ℕ). word ++ (32 ∷ t)) (join-spaces next words)

abbrev so_far : List ℕ → Option ℕ → LineSoFar
so_far text more = record { text = text; more = more }

-- a word more, where one is taken
one_more : (text word : List ℕ) (n : ℕ) → with_word (so_far text (Some (suc n))) word ≡ so_far (text ++ (32 ∷ word)) (Some n)
unfolding with_word
one_more text word n =
    let some : 0 < suc n = omega arith in
    let fewer : suc n - 1 ≡ n = omega arith in
    ap (λ (b : Bool). so_far (cond b (text ++ (32 ∷ word)) text) (Some (suc n - 1))) (lt-ltb 0 (suc n) some)
    ∙ ap (λ (m : ℕ). so_far (text ++ (32 ∷ word)) (Some m)) fewer

-- the words that a line takes, after its text so far
words_after : (text : List ℕ) (more : Option ℕ) (words : List (List ℕ)) → (with_words (so_far text more) words).text ≡ text ++ behind_spaces (words_taken more words)
unfolding with_word
words_after text None [] = sym (append-nil text)
words_after text None (word ∷ words) = words_after (text ++ (32 ∷ word)) None words ∙ append_assoc text (32 ∷ word) (behind_spaces words)
words_after text (Some zero) [] = sym (append-nil text)
words_after text (Some (suc n)) [] = sym (append-nil text)
words_after text (Some zero) (word ∷ words) = words_after text (Some zero) words
words_after text (Some (suc n)) (word ∷ words) =
    ap (λ (l : LineSoFar). (with_words l words).text) (one_more text word n)
    ∙ words_after (text ++ (32 ∷ word)) (Some n) words
    ∙ append_assoc text (32 ∷ word) (behind_spaces (take n words))

pub words-written : (l : LineSoFar) (words : List (List ℕ)) → (with_words l words).text ≡ l.text ++ behind_spaces (words_taken l.more words)
words-written l words = words_after l.text l.more words

pub ruleset lines = (join-spaces, words-written)

-- the text of the first item, and those of the others after separators
pub join-map : {A : Type 0} (separator : ℕ) (text : A → List ℕ) (a : A) (rest : List A) → join separator (map text (a ∷ rest)) ≡ text a ++ flat_map (λ b. separator ∷ text b) rest
join-map separator text a [] = sym (append-nil (text a))
join-map separator text a (b ∷ rest) = ap (λ (t : List ℕ). text a ++ (separator ∷ t)) (join-map separator text b rest)

-- items of which the first was written, and then the others after separators
pub join-written : {A : Type 0} (separator : ℕ) (text : A → List ℕ) (items : List A) (first : A) (old then new : List ℕ) → 1 ≤ length items → first ≡ get_or items 0 first → then ≡ old ++ text first → new ≡ then ++ flat_map (λ a. separator ∷ text a) (take (length items - 1) (drop 1 items)) → new ≡ old ++ join separator (map text items)
join-written separator text [] first old then new some is one two = absurd (omega arith)
join-written {A = A} separator text (a ∷ rest) first old then new some is one two =
    let le : length rest ≤ length (a ∷ rest) - 1 = omega arith in
    let others : take (length (a ∷ rest) - 1) rest ≡ rest = take_all (length (a ∷ rest) - 1) rest le in
    two
    ∙ ap (λ (t : List ℕ). t ++ flat_map (λ b. separator ∷ text b) (take (length (a ∷ rest) - 1) rest)) (one ∙ ap (λ (b : A). old ++ text b) is)
    ∙ ap (λ (bs : List A). (old ++ text a) ++ flat_map (λ b. separator ∷ text b) bs) others
    ∙ append_assoc old (text a) (flat_map (λ b. separator ∷ text b) rest)
    ∙ ap (λ (t : List ℕ). old ++ t) (sym (join-map separator text a rest))
