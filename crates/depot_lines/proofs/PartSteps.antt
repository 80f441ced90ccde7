-- Taking the parts of a text one after the other.
use Rattle.std.proofs.Common.{◌≡◌, ℕ, ◌+◌, ◌<◌, ◌≤◌, Bool, true, false, cond, eqb, ltb, List, [], ◌∷◌, length, take, drop, Some, None, refl, sym, ap, ◌∙◌, arith}
use Rattle.std.specs.List.{position, position_or_len}
use Rattle.std.proofs.lemmas.Bool.{ltb-true, ltb-false, and_from, ne_eqb}
use Rattle.std.proofs.lemmas.List.Splits.{slice_split_first}
use Rattle.depot_lines.specs.Language.{split}
use Rattle.depot_lines.proofs.Splitting.{lacks, split_none, split_some}

abbrev place : ℕ → List ℕ → ℕ
place separator text = position_or_len (λ b. eqb b separator) text

lacks_from : (separator : ℕ) (text : List ℕ) → length text ≤ place separator text → lacks separator text ≡ true
lacks_from separator [] le = refl
lacks_from separator (b ∷ bs) le = by (eqb b separator) refl (λ le. lacks_from separator bs le) where
  by : (t : Bool) → eqb b separator ≡ t → (length bs ≤ place separator bs → lacks separator bs ≡ true) → lacks separator (b ∷ bs) ≡ true
  by true e rest = let z : place separator (b ∷ bs) ≡ 0 = rw e refl in absurd (omega arith)
  by false e rest =
      let s : place separator (b ∷ bs) ≡ 1 + place separator bs = rw e refl in
      and_from _ _ (rw e refl) (rest (omega arith))

position_some : (separator : ℕ) (text : List ℕ) (i : ℕ) (t : Bool) → ltb (place separator text) (length text) ≡ t → Some i ≡ cond t (Some (place separator text)) None → (place separator text < length text) × (i ≡ place separator text)
position_some separator text i true e h = (ltb-true _ _ e, cc)
position_some separator text i false e h = absurd cc

position_none : (separator : ℕ) (text : List ℕ) (t : Bool) → ltb (place separator text) (length text) ≡ t → None ≡ cond t (Some (place separator text)) None → length text ≤ place separator text
position_none separator text true e h = absurd cc
position_none separator text false e h = ltb-false _ _ e

-- a separator was found
pub found : (separator : ℕ) (text : List ℕ) (i : ℕ) → Some i ≡ position (λ b. eqb b separator) text → (i < length text) × (split separator text ≡ take i text ∷ split separator (drop (i + 1) text))
found separator text i e =
    let p = position_some separator text i (ltb (place separator text) (length text)) refl e in
    (omega (arith, p.0, p.1), slice_split_first (λ b. eqb b separator) text 0 p.0 ∙ ap (λ (n : ℕ). take n text ∷ split separator (drop (n + 1) text)) (sym p.1))

-- none was found
pub missing : (separator : ℕ) (text : List ℕ) → None ≡ position (λ b. eqb b separator) text → split separator text ≡ text ∷ []
missing separator text e = split_none separator text (lacks_from separator text (position_none separator text (ltb (place separator text) (length text)) refl e))

-- what is left of a text is a part or more
pub some_left : (separator : ℕ) (text : List ℕ) → false ≡ eqb (length (split separator text)) 0
some_left separator text = sym (ne_eqb (length (split separator text)) 0 (λ e. let s = split_some separator text in omega arith))
