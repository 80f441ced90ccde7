-- The values that a journal holds: each is one that a record brings, and a hash has the first of them.
use Rattle.std.proofs.Common.{◌≡◌, ℕ, ◌==◌, Bool, true, false, cond, List, [], ◌∷◌, ◌++◌, length, Option, Some, None, refl, sym, ap, subst, ◌∙◌, inl, inr, ◌⊎◌}
use Rattle.std.specs.List.{flat_map}
use Rattle.std.specs.Option.{option_and_then}
use Rattle.std.specs.Str.{bytes_eq}
use Rattle.std.proofs.lemmas.Bool.{both_ways, false_from_ne_true, or_from, eqb-true, eq-eqb}
use Rattle.std.proofs.lemmas.Slice.Eq.{bytes_eq-Decides}
use Rattle.sha2.specs.Sha256.{sha256}
use Rattle.depot_base.specs.declared.record.Record.{Record}
use Rattle.depot_model.specs.lists.Lists.{IsIn, is_among, when}
use Rattle.depot_model.specs.journals.Journal.{first_values, held, value_by, value_with, held_as}
use Rattle.depot_model.specs.texts.Contents.{NamedValue}
use Rattle.depot_model.proofs.lists.Members.{among-append}
use Rattle.depot_base.proofs.GeneralLaws.{bytes_eq_comm}

-- ---- values of a hash

kept_value : (b : Bool) (v w : List ℕ) (xs ys : List (List ℕ)) → IsIn w (cond b xs (v ∷ ys)) → IsIn w xs ⊎ ((v ≡ w) ⊎ IsIn w ys)
kept_value true v w xs ys on = inl on
kept_value false v w xs ys on = inr on

-- the first values are some of the values
pub from_first : (hashes vs : List (List ℕ)) (w : List ℕ) → IsIn w (first_values hashes vs) → IsIn w vs
unfolding first_values
from_first hashes [] w never = never
from_first hashes (v ∷ vs) w on = elim (kept_value (is_among (sha256 v) hashes) v w (first_values hashes vs) (first_values (hashes ++ sha256 v ∷ []) vs) on) [
  | inl later ↦ inr (from_first hashes vs w later)
  | inr some ↦ elim some [ inl here ↦ inl here | inr later ↦ inr (from_first (hashes ++ sha256 v ∷ []) vs w later) ]
]

-- one of these values, with this hash
pub record HasHash (vs : List (List ℕ)) (h v : List ℕ) : Type 0 where
  pub on : IsIn v vs
  pub hash : sha256 v ≡ h

pub value_with_is : (vs : List (List ℕ)) (h v : List ℕ) → value_with h vs ≡ Some v → HasHash vs h v
value_with_is [] h v e = absurd cc
value_with_is (w ∷ ws) h v e = found (bytes_eq (sha256 w) h) refl e (λ later. value_with_is ws h v later) where
  found : (b : Bool) → bytes_eq (sha256 w) h ≡ b → cond b (Some w) (value_with h ws) ≡ Some v → (value_with h ws ≡ Some v → HasHash ws h v) → HasHash (w ∷ ws) h v
  found true is e behind = let same : w ≡ v = cc in record { on = inl same; hash = ap sha256 (sym same) ∙ (bytes_eq-Decides (sha256 w) h).0 is }
  found false is e behind = let l = behind e in record { on = inr l.on; hash = l.hash }

-- ---- the first value of each hash

pub other_hash : (h k : List ℕ) (hashes : List (List ℕ)) → is_among h hashes ≡ false → is_among k hashes ≡ true → bytes_eq k h ≡ false
other_hash h k hashes none there = false_from_ne_true (bytes_eq k h) (λ e. both_ways (is_among h hashes) none (subst (λ (x : List ℕ). is_among x hashes ≡ true) ((bytes_eq-Decides k h).0 e) there))

pub still_none : (h k : List ℕ) (hashes : List (List ℕ)) → is_among h hashes ≡ false → bytes_eq k h ≡ false → is_among h (hashes ++ k ∷ []) ≡ false
still_none h k hashes none other = among-append h hashes (k ∷ []) ∙ or_from _ _ none (or_from _ _ (bytes_eq_comm h k ∙ other) refl)

-- the values that are left out are none that a hash has first
pub value_with_first : (h : List ℕ) (hashes vs : List (List ℕ)) → is_among h hashes ≡ false → value_with h (first_values hashes vs) ≡ value_with h vs
unfolding first_values
value_with_first h hashes [] none = refl
value_with_first h hashes (v ∷ vs) none = step (is_among (sha256 v) hashes) refl (bytes_eq (sha256 v) h) refl (value_with_first h hashes vs none) (value_with_first h (hashes ++ sha256 v ∷ []) vs) where
  step : (a : Bool) → is_among (sha256 v) hashes ≡ a → (b : Bool) → bytes_eq (sha256 v) h ≡ b → value_with h (first_values hashes vs) ≡ value_with h vs
      → (is_among h (hashes ++ sha256 v ∷ []) ≡ false → value_with h (first_values (hashes ++ sha256 v ∷ []) vs) ≡ value_with h vs)
      → value_with h (cond a (first_values hashes vs) (v ∷ first_values (hashes ++ sha256 v ∷ []) vs)) ≡ cond b (Some v) (value_with h vs)
  step true a_is true b_is same more = absurd (both_ways (bytes_eq (sha256 v) h) (other_hash h (sha256 v) hashes none a_is) b_is)
  step true a_is false b_is same more = same
  step false a_is true b_is same more = rw b_is refl
  step false a_is false b_is same more = rw b_is (more (still_none h (sha256 v) hashes none b_is))

-- the value of a hash is the first that a record brings
pub held_is : (h : List ℕ) (J : List Record) → value_with h (held J) ≡ value_with h (flat_map value_by J)
held_is h J = value_with_first h [] (flat_map value_by J) refl

-- a held value is one that a record brings
pub held_is_brought : (J : List Record) (v : List ℕ) → IsIn v (held J) → IsIn v (flat_map value_by J)
held_is_brought J v on = from_first [] (flat_map value_by J) v on

-- ---- the value of a hash

-- the only value of a hash is found by it
pub value_found : (vs : List (List ℕ)) (h v : List ℕ) → IsIn v vs → sha256 v ≡ h → ((w : List ℕ) → IsIn w vs → sha256 w ≡ h → w ≡ v) → value_with h vs ≡ Some v
value_found [] h v never hash only = absurd never
value_found (x ∷ vs) h v on hash only = by_test (bytes_eq (sha256 x) h) refl (λ there. value_found vs h v there hash (λ w w_on e. only w (inr w_on) e)) where
  by_test : (b : Bool) → bytes_eq (sha256 x) h ≡ b → (IsIn v vs → value_with h vs ≡ Some v) → cond b (Some x) (value_with h vs) ≡ Some v
  by_test true is later = ap (λ (y : List ℕ). Some y) (only x (inl refl) ((bytes_eq-Decides (sha256 x) h).0 is))
  by_test false is later = elim on [
    | inl here ↦ absurd (both_ways _ is ((bytes_eq-Decides (sha256 x) h).1 (ap sha256 here ∙ hash)))
    | inr there ↦ later there
  ]

-- ---- the value of a name

-- what is held as a named value: brought by a record, of the name's hash and size
pub record IsNamed (J : List Record) (n : NamedValue) (v : List ℕ) : Type 0 where
  pub on : IsIn v (flat_map value_by J)
  pub hash : sha256 v ≡ n.hash
  pub size : length v ≡ n.size

sized : (o : Option (List ℕ)) (size : ℕ) (v : List ℕ) → option_and_then (λ x. when (length x == size) x) o ≡ Some v → (o ≡ Some v) × (length v ≡ size)
sized None size v e = absurd cc
sized (Some x) size v e = by_test (length x == size) refl e where
  by_test : (b : Bool) → (length x == size) ≡ b → when b x ≡ Some v → (Some x ≡ Some v) × (length v ≡ size)
  by_test true is e = let same : x ≡ v = cc in (e, ap length (sym same) ∙ eqb-true (length x) size is)
  by_test false is e = absurd cc

pub held_as_is : (J : List Record) (n : NamedValue) (v : List ℕ) → held_as J n ≡ Some v → IsNamed J n v
held_as_is J n v e =
    let s = sized (value_with n.hash (held J)) n.size v e in
    let h = value_with_is (flat_map value_by J) n.hash v (sym (held_is n.hash J) ∙ s.0) in
    record { on = h.on; hash = h.hash; size = s.1 }

sized_from : (size : ℕ) (v : List ℕ) → length v ≡ size → when (length v == size) v ≡ Some v
sized_from size v e = let is : (length v == size) ≡ true = eq-eqb (length v) size e in rw is refl

-- and it is found, where no two values have the hash
pub held_as_from : (J : List Record) (n : NamedValue) (v : List ℕ) → IsNamed J n v → ((w : List ℕ) → IsIn w (flat_map value_by J) → sha256 w ≡ n.hash → w ≡ v) → held_as J n ≡ Some v
held_as_from J n v is only =
    let found : value_with n.hash (held J) ≡ Some v = held_is n.hash J ∙ value_found (flat_map value_by J) n.hash v is.on is.hash only in
    ap (λ (o : Option (List ℕ)). option_and_then (λ x. when (length x == n.size) x) o) found ∙ sized_from n.size v is.size
