-- Parts between separators.
use Rattle.std.proofs.Common.{◌≡◌, ℕ, ◌<◌, Bool, true, false, not, eqb, List, [], ◌∷◌, ◌++◌, length, refl, ap, ◌∙◌, arith}
use Rattle.std.specs.List.{list_all, onto_first}
use Rattle.std.proofs.lemmas.Bool.{and_parts, and_from, eq-eqb, not-true}
use Rattle.std.proofs.lemmas.List.Folds.{list_all-append}
use Rattle.std.proofs.lemmas.List.Splits.{join_with_byte-slice_split}
use Rattle.depot_lines.specs.Language.{split, join}

-- the separator is not there
abbrev pub lacks : ℕ → List ℕ → Bool
lacks separator text = list_all (λ b. not (eqb b separator)) text

pub split_none : (separator : ℕ) (text : List ℕ) → lacks separator text ≡ true → split separator text ≡ text ∷ []
split_none separator [] none = refl
split_none separator (b ∷ bs) none =
    let p = and_parts (not (eqb b separator)) (lacks separator bs) none in
    rw (not-true (eqb b separator) p.0, split_none separator bs p.1) refl

pub split_at : (separator : ℕ) (text rest : List ℕ) → lacks separator text ≡ true → split separator (text ++ (separator ∷ rest)) ≡ text ∷ split separator rest
split_at separator [] rest none = rw (eq-eqb separator separator refl) refl
split_at separator (b ∷ bs) rest none =
    let p = and_parts (not (eqb b separator)) (lacks separator bs) none in
    rw (not-true (eqb b separator) p.0, split_at separator bs rest p.1) refl

-- parts without the separator are those of their join
pub split_join : (separator : ℕ) (parts : List (List ℕ)) → 0 < length parts → list_all (lacks separator) parts ≡ true → split separator (join separator parts) ≡ parts
split_join separator [] some none = absurd (omega arith)
split_join separator (part ∷ []) some none = split_none separator part (and_parts (lacks separator part) true none).0
split_join separator (part ∷ next ∷ parts) some none =
    let p = and_parts (lacks separator part) (list_all (lacks separator) (next ∷ parts)) none in
    split_at separator part (join separator (next ∷ parts)) p.0 ∙ ap (λ (rest : List (List ℕ)). part ∷ rest) (split_join separator (next ∷ parts) (omega arith) p.1)

pub join_split : (separator : ℕ) (text : List ℕ) → join separator (split separator text) ≡ text
join_split separator text = join_with_byte-slice_split separator text

onto_some : (b : ℕ) (parts : List (List ℕ)) → 0 < length (onto_first b parts)
onto_some b [] = omega arith
onto_some b (part ∷ parts) = omega arith

-- there is a part always
pub split_some : (separator : ℕ) (text : List ℕ) → 0 < length (split separator text)
split_some separator [] = omega arith
split_some separator (b ∷ bs) = some (eqb b separator) where
  some : (test : Bool) → 0 < length (Rattle.std.proofs.Common.cond test ([] ∷ split separator bs) (onto_first b (split separator bs)))
  some true = omega arith
  some false = onto_some b (split separator bs)

-- ---- all of a list

pub all_weaker : {X : Type 0} (p q : X → Bool) → ((x : X) → p x ≡ true → q x ≡ true) → (xs : List X) → list_all p xs ≡ true → list_all q xs ≡ true
all_weaker p q to [] e = refl
all_weaker p q to (x ∷ xs) e = let a = and_parts (p x) (list_all p xs) e in and_from (q x) (list_all q xs) (to x a.0) (all_weaker p q to xs a.1)

pub all_append : {X : Type 0} (p : X → Bool) (xs ys : List X) → list_all p xs ≡ true → list_all p ys ≡ true → list_all p (xs ++ ys) ≡ true
all_append p xs ys a b = rw (list_all-append p xs ys, a, b) refl

-- all bytes of joined parts are those of the parts, and separators
pub all_join : (p : ℕ → Bool) (separator : ℕ) → p separator ≡ true → (parts : List (List ℕ)) → list_all (list_all p) parts ≡ true → list_all p (join separator parts) ≡ true
all_join p separator on [] e = refl
all_join p separator on (part ∷ []) e = (and_parts (list_all p part) true e).0
all_join p separator on (part ∷ next ∷ parts) e =
    let a = and_parts (list_all p part) (list_all (list_all p) (next ∷ parts)) e in
    all_append p part (separator ∷ join separator (next ∷ parts)) a.0 (and_from (p separator) (list_all p (join separator (next ∷ parts))) on (all_join p separator on (next ∷ parts) a.1))
