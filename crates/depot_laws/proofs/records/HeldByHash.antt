-- Whether a value is held, by the one that its hash has.
use Rattle.std.proofs.Common.{◌≡◌, ◌∙◌, ℕ, ◌==◌, ◌&&◌, ◌||◌, Bool, true, false, cond, List, [], ◌∷◌, ◌++◌, length, Option, refl, sym, ap, subst}
use Rattle.std.specs.List.{list_any}
use Rattle.std.specs.Option.{option_map_or}
use Rattle.std.specs.Str.{bytes_eq}
use Rattle.std.proofs.lemmas.Bool.{both_ways, or_left, or_right}
use Rattle.std.proofs.lemmas.Slice.Eq.{bytes_eq-Decides}
use Rattle.sha2.specs.Sha256.{sha256}
use Rattle.depot_base.specs.declared.record.Record.{Record}
use Rattle.depot_base.proofs.GeneralLaws.{same_bytes}
use Rattle.depot_model.specs.journals.Journal.{first_values, held, holds, value_with}
use Rattle.depot_model.specs.lists.Lists.{is_among}
use Rattle.depot_model.proofs.lists.Members.{among-append}

-- a value of this hash and this length
abbrev fits : List ℕ → ℕ → List ℕ → Bool
fits h size v = bytes_eq (sha256 v) h && (length v == size)

-- after a hash that was there comes no value of it
none_behind : (h : List ℕ) (size : ℕ) (hashes vs : List (List ℕ)) → is_among h hashes ≡ true → list_any (fits h size) (first_values hashes vs) ≡ false
unfolding first_values
none_behind h size hashes [] there = refl
none_behind h size hashes (v ∷ vs) there =
    step (is_among (sha256 v) hashes) refl (bytes_eq (sha256 v) h) refl (none_behind h size hashes vs there)
    (none_behind h size (hashes ++ sha256 v ∷ []) vs (among-append h hashes (sha256 v ∷ []) ∙ or_left (is_among h hashes) (is_among h (sha256 v ∷ [])) there)) where
      step : (a : Bool) → is_among (sha256 v) hashes ≡ a → (b : Bool) → bytes_eq (sha256 v) h ≡ b → list_any (fits h size) (first_values hashes vs) ≡ false → list_any (fits h size) (first_values (hashes ++ sha256 v ∷ []) vs) ≡ false
          → list_any (fits h size) (cond a (first_values hashes vs) (v ∷ first_values (hashes ++ sha256 v ∷ []) vs)) ≡ false
      step true is b e same more = same
      step false is true e same more = absurd (both_ways (is_among (sha256 v) hashes) is (subst (λ (x : List ℕ). is_among x hashes ≡ true) (sym ((bytes_eq-Decides (sha256 v) h).0 e)) there))
      step false is false e same more = rw e more

or_lost : (b rest : Bool) → rest ≡ false → (b || rest) ≡ b
or_lost true rest e = refl
or_lost false rest e = e

-- the first value of a hash is the only one
first_is_only : (h : List ℕ) (size : ℕ) (hashes vs : List (List ℕ)) → list_any (fits h size) (first_values hashes vs) ≡ option_map_or (λ v. length v == size) (value_with h (first_values hashes vs)) false
unfolding first_values
first_is_only h size hashes [] = refl
first_is_only h size hashes (v ∷ vs) = step (is_among (sha256 v) hashes) (bytes_eq (sha256 v) h) refl (first_is_only h size hashes vs) (first_is_only h size (hashes ++ sha256 v ∷ []) vs) where
  more : List (List ℕ)
  more = first_values (hashes ++ sha256 v ∷ []) vs

  among : bytes_eq (sha256 v) h ≡ true → is_among h (hashes ++ sha256 v ∷ []) ≡ true
  among e = subst (λ (x : List ℕ). is_among x (hashes ++ sha256 v ∷ []) ≡ true) ((bytes_eq-Decides (sha256 v) h).0 e)
      (among-append (sha256 v) hashes (sha256 v ∷ []) ∙ or_right (is_among (sha256 v) hashes) (is_among (sha256 v) (sha256 v ∷ [])) (or_left (bytes_eq (sha256 v) (sha256 v)) false (same_bytes (sha256 v))))

  step : (a b : Bool) → bytes_eq (sha256 v) h ≡ b → list_any (fits h size) (first_values hashes vs) ≡ option_map_or (λ w. length w == size) (value_with h (first_values hashes vs)) false
      → list_any (fits h size) more ≡ option_map_or (λ w. length w == size) (value_with h more) false
      → list_any (fits h size) (cond a (first_values hashes vs) (v ∷ more)) ≡ option_map_or (λ w. length w == size) (value_with h (cond a (first_values hashes vs) (v ∷ more))) false
  step true b e same rest = same
  step false true e same rest = rw e (or_lost (length v == size) (list_any (fits h size) more) (none_behind h size (hashes ++ sha256 v ∷ []) vs (among e)))
  step false false e same rest = rw e rest

-- whether a value is held, by the one that its hash has
pub holds_by : (J : List Record) (h : List ℕ) (size : ℕ) → holds J h size ≡ option_map_or (λ v. length v == size) (value_with h (held J)) false
unfolding holds
holds_by J h size = first_is_only h size [] _

-- the value that a hash has, where it has the length, is what is held
pub held_by_hash : (J : List Record) (h : List ℕ) (size : ℕ) (o : Option (List ℕ)) → o ≡ value_with h (held J) → option_map_or (λ v. length v == size) o false ≡ holds J h size
held_by_hash J h size o e = ap (λ (p : Option (List ℕ)). option_map_or (λ v. length v == size) p false) e ∙ sym (holds_by J h size)
