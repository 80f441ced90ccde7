-- Texts of which no two collide, as far as computing shows: each two are one text, or have two hashes.
use Rattle.std.proofs.Common.{◌≡◌, ℕ, List, [], ◌∷◌, Bool, true, false, not, ◌&&◌, ◌||◌, refl, sym, ap, ◌∙◌, inl, inr}
use Rattle.std.specs.Str.{bytes_eq}
use Rattle.std.proofs.lemmas.Bool.{and_parts}
use Rattle.std.proofs.lemmas.Slice.Eq.{bytes_eq-Decides}
use Rattle.sha2.specs.Sha256.{sha256}
use Rattle.depot_model.specs.lists.Lists.{IsIn}

-- a text is that one, or has another hash
abbrev is_other : List ℕ → List ℕ → Bool
is_other a b = bytes_eq a b || not (bytes_eq (sha256 a) (sha256 b))

abbrev is_apart : List ℕ → List (List ℕ) → Bool
is_apart a [] = true
is_apart a (b ∷ bs) = is_other a b && is_apart a bs

-- of each two of these texts that holds
abbrev pub are_apart : List (List ℕ) → Bool
are_apart [] = true
are_apart (a ∷ rest) = is_apart a rest && are_apart rest

one_hash : (a b : List ℕ) → is_other a b ≡ true → sha256 a ≡ sha256 b → a ≡ b
one_hash a b other e = by_test (bytes_eq a b) (bytes_eq (sha256 a) (sha256 b)) (λ same. (bytes_eq-Decides a b).0 same) ((bytes_eq-Decides (sha256 a) (sha256 b)).1 e) other where
  by_test : (same hashes : Bool) → (same ≡ true → a ≡ b) → hashes ≡ true → (same || not hashes) ≡ true → a ≡ b
  by_test true hashes is e other = is refl
  by_test false true is e other = absurd cc
  by_test false false is e other = absurd cc

one_of : (a b : List ℕ) (ts : List (List ℕ)) → is_apart a ts ≡ true → IsIn b ts → sha256 a ≡ sha256 b → a ≡ b
one_of a b (x ∷ ts) apart (inl same) e = one_hash a x (and_parts (is_other a x) (is_apart a ts) apart).0 (e ∙ ap sha256 (sym same)) ∙ same
one_of a b (x ∷ ts) apart (inr on) e = one_of a b ts (and_parts (is_other a x) (is_apart a ts) apart).1 on e
one_of a b [] apart on e = absurd on

-- no two of such texts collide
pub none_collide : (ts : List (List ℕ)) → are_apart ts ≡ true → (a b : List ℕ) → IsIn a ts → IsIn b ts → sha256 a ≡ sha256 b → a ≡ b
none_collide [] apart a b a_on b_on e = absurd a_on
none_collide (t ∷ ts) apart a b (inl a_is) (inl b_is) e = sym a_is ∙ b_is
none_collide (t ∷ ts) apart a b (inl a_is) (inr b_on) e = sym a_is ∙ one_of t b ts (and_parts (is_apart t ts) (are_apart ts) apart).0 b_on (ap sha256 a_is ∙ e)
none_collide (t ∷ ts) apart a b (inr a_on) (inl b_is) e = sym (sym b_is ∙ one_of t a ts (and_parts (is_apart t ts) (are_apart ts) apart).0 a_on (ap sha256 b_is ∙ sym e))
none_collide (t ∷ ts) apart a b (inr a_on) (inr b_on) e = none_collide ts (and_parts (is_apart t ts) (are_apart ts) apart).1 a b a_on b_on e
