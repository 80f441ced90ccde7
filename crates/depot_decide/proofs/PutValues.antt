-- The values of a record against the writes that name them, one write after another.
use Rattle.std.proofs.Common.{◌≡◌, ◌↔◌, ℕ, ◌+◌, ◌<◌, Bool, true, false, not, ◌&&◌, IsTrue, List, [], ◌∷◌, length, map, drop, get_or, refl, sym, ap, ◌∙◌}
use Rattle.std.specs.Str.{bytes_eq}
use Rattle.std.proofs.lemmas.Bool.{false_from_ne_true}
use Rattle.std.proofs.lemmas.List.{drop_more}
use Rattle.std.proofs.lemmas.Slice.Eq.{bytes_eq-Decides}
use Rattle.sha2.specs.Sha256.{sha256}
use Rattle.depot_base.specs.Writes.{value_in, sizes_of}
use Rattle.depot_base.specs.declared.update.NamedValue.{NamedValue}
use Rattle.depot_base.specs.declared.write.Wrote.{Wrote}
use Rattle.depot_base.specs.declared.write.Wrote.TheVariants.{Put, Gone}
use Rattle.depot_base.specs.declared.write.Write.{Write}
use Rattle.depot_model.specs.checks.Own.{write_of, changes_of}
use Rattle.depot_model.proofs.of_updates.ChangeLaws.{have_hashes, goes_with, hashes_from}

-- Of writes and values these are left: their lengths agree, and all values are those of all writes exactly where these are.
pub record AreLeft (ws : List Write) (vs : List (List ℕ)) (left : List Write) (rest : List (List ℕ)) : Type 0 where
  pub lengths : map (λ v. length v) rest ≡ sizes_of left
  pub hashes : have_hashes ws vs ≡ have_hashes left rest

-- ---- one write

-- what is left begins with the next
pub next_left : {X : Type 0} (xs : List X) (i : ℕ) (x : X) → i < length xs → x ≡ get_or xs i x → drop i xs ≡ x ∷ drop (i + 1) xs
next_left xs i x low is = drop_more xs i x low ∙ ap (λ (y : _). y ∷ drop (i + 1) xs) (sym is)

-- what the values of all say is said by this one and those after it
first_says : (ws : List Write) (vs : List (List ℕ)) (key : List ℕ) (what : Wrote) (n : NamedValue) (left : List Write) (v : List ℕ) (rest : List (List ℕ)) → n ∷ [] ≡ value_in what → AreLeft ws vs (record { key = key; what = what } ∷ left) (v ∷ rest)
    → (map (λ x. length x) rest ≡ sizes_of left) × (have_hashes ws vs ≡ (bytes_eq n.hash (sha256 v) && have_hashes left rest))
first_says ws vs key (Put hash size) n left v rest named a =
    let same : hash ≡ n.hash = cc in
    (ap (drop 1) a.lengths, a.hashes ∙ ap (λ (h : List ℕ). bytes_eq h (sha256 v) && have_hashes left rest) same)
first_says ws vs key Gone n left v rest named a = absurd cc

-- what a test of two hashes says
same_hash : (a b : List ℕ) (differs : Bool) → differs ≡ not (bytes_eq a b) → differs ≡ false → a ≡ b
same_hash a b differs is no_they_do_not = (bytes_eq-Decides a b).0 (by_test (bytes_eq a b) (sym is ∙ no_they_do_not)) where
  by_test : (t : Bool) → not t ≡ false → t ≡ true
  by_test true e = refl
  by_test false e = absurd cc

other_hash : (a b : List ℕ) (differs : Bool) → differs ≡ not (bytes_eq a b) → differs ≡ true → a ≡ b → ⊥
other_hash a b differs is they_do same = by_test (bytes_eq a b) ((bytes_eq-Decides a b).1 same) (sym is ∙ they_do) where
  by_test : (t : Bool) → t ≡ true → not t ≡ true → ⊥
  by_test true e f = absurd cc
  by_test false e f = absurd cc

-- a value that has the hash goes by with its write
pub past_value : (ws : List Write) (vs : List (List ℕ)) (w : Write) (n : NamedValue) (left : List Write) (v : List ℕ) (rest : List (List ℕ)) (hash : List ℕ) (differs : Bool) → n ∷ [] ≡ value_in w.what → hash ≡ sha256 v → differs ≡ not (bytes_eq hash n.hash) → differs ≡ false → AreLeft ws vs (w ∷ left) (v ∷ rest) → AreLeft ws vs left rest
past_value ws vs w n left v rest hash differs named hashed test same a =
    let says = first_says ws vs w.key w.what n left v rest named a in
    let yes_it_is : bytes_eq n.hash (sha256 v) ≡ true = (bytes_eq-Decides n.hash (sha256 v)).1 (sym (same_hash hash n.hash differs test same) ∙ hashed) in
    record { lengths = says.0; hashes = says.1 ∙ ap (λ (b : Bool). b && have_hashes left rest) yes_it_is }

-- and one that hasn't shows that not all are the writes'
pub other_value : (ws : List Write) (vs : List (List ℕ)) (w : Write) (n : NamedValue) (left : List Write) (v : List ℕ) (rest : List (List ℕ)) (hash : List ℕ) (differs : Bool) → n ∷ [] ≡ value_in w.what → hash ≡ sha256 v → differs ≡ not (bytes_eq hash n.hash) → differs ≡ true → AreLeft ws vs (w ∷ left) (v ∷ rest) → have_hashes ws vs ≡ false
other_value ws vs w n left v rest hash differs named hashed test other a =
    let says = first_says ws vs w.key w.what n left v rest named a in
    let not_it : bytes_eq n.hash (sha256 v) ≡ false = false_from_ne_true (bytes_eq n.hash (sha256 v)) (λ same. other_hash hash n.hash differs test other (hashed ∙ sym ((bytes_eq-Decides n.hash (sha256 v)).0 same))) in
    says.1 ∙ ap (λ (b : Bool). b && have_hashes left rest) not_it

-- ---- all of them

-- none is left
pub all_hashed : (ws : List Write) (vs : List (List ℕ)) (left : List Write) (rest : List (List ℕ)) → left ≡ [] → AreLeft ws vs left rest → have_hashes ws vs ≡ true
all_hashed ws vs left rest none a = a.hashes ∙ ap (λ (l : List Write). have_hashes l rest) none

-- the values are those of the writes exactly where all hashes agree
pub told_by_hashes : (ws : List Write) (vs : List (List ℕ)) (told : Bool) → map (λ v. length v) vs ≡ sizes_of ws → have_hashes ws vs ≡ told → IsTrue told ↔ (ws ≡ map write_of (changes_of ws vs))
told_by_hashes ws vs told lengths is = (
  λ yes_it_is. goes_with ws vs lengths (is ∙ yes_it_is),
  λ same. sym is ∙ hashes_from ws vs lengths same,
)
