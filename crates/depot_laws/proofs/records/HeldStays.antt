-- A held value stays held, and stays the same.
use Rattle.std.proofs.Common.{◌≡◌, ℕ, ◌==◌, ◌&&◌, Bool, true, false, cond, List, [], ◌∷◌, ◌++◌, length, Option, Some, None, refl, sym, ap, subst, ◌∙◌, inl, inr}
use Rattle.std.specs.List.{flat_map}
use Rattle.std.specs.Option.{option_and_then}
use Rattle.std.specs.Str.{bytes_eq}
use Rattle.std.proofs.lemmas.Grind.{flat_map-append}
use Rattle.sha2.specs.Sha256.{sha256}
use Rattle.depot_base.specs.declared.record.Record.{Record}
use Rattle.depot_model.specs.lists.Lists.{IsIn, is_among, when}
use Rattle.depot_model.specs.texts.Contents.{NamedValue}
use Rattle.depot_model.specs.journals.Journal.{first_values, held, holds, value_by, value_with, held_as}
use Rattle.depot_model.proofs.lists.Members.{any_from, any_to}
use Rattle.depot_laws.proofs.records.HeldValues.{held_is}

-- what comes first comes first with more after it
first_stays : (hashes vs ws : List (List ℕ)) (v : List ℕ) → IsIn v (first_values hashes vs) → IsIn v (first_values hashes (vs ++ ws))
unfolding first_values
first_stays hashes [] ws v never = absurd never
first_stays hashes (x ∷ vs) ws v on = chosen (is_among (sha256 x) hashes) on (first_stays hashes vs ws v) (first_stays (hashes ++ sha256 x ∷ []) vs ws v) where
  chosen : (b : Bool) → IsIn v (cond b (first_values hashes vs) (x ∷ first_values (hashes ++ sha256 x ∷ []) vs)) → (IsIn v (first_values hashes vs) → IsIn v (first_values hashes (vs ++ ws)))
      → (IsIn v (first_values (hashes ++ sha256 x ∷ []) vs) → IsIn v (first_values (hashes ++ sha256 x ∷ []) (vs ++ ws)))
      → IsIn v (cond b (first_values hashes (vs ++ ws)) (x ∷ first_values (hashes ++ sha256 x ∷ []) (vs ++ ws)))
  chosen true on same more = same on
  chosen false (inl here) same more = inl here
  chosen false (inr there) same more = inr (more there)

-- a held value is held with more records after
pub held_stays : (J more : List Record) (v : List ℕ) → IsIn v (held J) → IsIn v (held (J ++ more))
held_stays J more v on = subst (λ (vs : List (List ℕ)). IsIn v (first_values [] vs)) (sym (flat_map-append value_by J more)) (first_stays [] (flat_map value_by J) (flat_map value_by more) v on)

pub holds_stays : (J more : List Record) (h : List ℕ) (n : ℕ) → holds J h n ≡ true → holds (J ++ more) h n ≡ true
unfolding holds
holds_stays J more h n e =
    let test : List ℕ → Bool = λ v. bytes_eq (sha256 v) h && (length v == n) in
    let r = any_to test (held J) e in
    any_from test r.0 (held (J ++ more)) (held_stays J more r.0 r.1.0) r.1.1

-- the first value of a hash stays the first
with_more : (h : List ℕ) (vs ws : List (List ℕ)) (v : List ℕ) → value_with h vs ≡ Some v → value_with h (vs ++ ws) ≡ Some v
with_more h [] ws v e = absurd cc
with_more h (x ∷ vs) ws v e = chosen (bytes_eq (sha256 x) h) e (with_more h vs ws v) where
  chosen : (b : Bool) → cond b (Some x) (value_with h vs) ≡ Some v → (value_with h vs ≡ Some v → value_with h (vs ++ ws) ≡ Some v) → cond b (Some x) (value_with h (vs ++ ws)) ≡ Some v
  chosen true e more = e
  chosen false e more = more e

pub hash_stays : (J more : List Record) (h v : List ℕ) → value_with h (held J) ≡ Some v → value_with h (held (J ++ more)) ≡ Some v
hash_stays J more h v e =
    held_is h (J ++ more) ∙ ap (value_with h) (flat_map-append value_by J more) ∙ with_more h (flat_map value_by J) (flat_map value_by more) v (sym (held_is h J) ∙ e)

-- so the value of a name stays the same
pub named_stays : (J more : List Record) (n : NamedValue) (v : List ℕ) → held_as J n ≡ Some v → held_as (J ++ more) n ≡ Some v
named_stays J more n v e = by_value (value_with n.hash (held J)) refl e where
  by_value : (o : Option (List ℕ)) → value_with n.hash (held J) ≡ o → option_and_then (λ x. when (length x == n.size) x) o ≡ Some v → held_as (J ++ more) n ≡ Some v
  by_value None is e = absurd cc
  by_value (Some w) is e = ap (λ (o : Option (List ℕ)). option_and_then (λ x. when (length x == n.size) x) o) (hash_stays J more n.hash w is) ∙ e
