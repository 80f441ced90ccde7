-- Which value a hash has, with one record more.
use Rattle.std.proofs.Common.{◌≡◌, ◌≢◌, ◌↔◌, ℕ, Bool, true, false, cond, List, [], ◌∷◌, ◌++◌, Option, Some, None, refl, sym, ap, subst, ◌∙◌}
use Rattle.std.specs.List.{flat_map}
use Rattle.std.specs.Prelude.{Result, Ok, Err, IsSome, IsOk}
use Rattle.std.specs.Str.{bytes_eq}
use Rattle.std.proofs.lemmas.Bool.{both_ways}
use Rattle.std.proofs.lemmas.Slice.Eq.{bytes_eq-Decides}
use Rattle.sha2.specs.Sha256.{sha256}
use Rattle.depot_base.specs.declared.record.Record.{Record}
use Rattle.depot_model.specs.declared.taken.Taken.{Taken}
use Rattle.depot_model.specs.declared.taken.Taken.TheVariants.{Known, New}
use Rattle.depot_model.specs.journals.Journal.{first_values, held, value_by, value_with}
use Rattle.depot_kept.specs.Values as values
use Rattle.depot_kept.specs.declared.values.Values.{Values}
use Rattle.depot_readings.specs.AddedValues.{or_else, AddsAll}
use Rattle.depot_laws.proofs.lists.Splits.{silent}
use Rattle.depot_base.proofs.GeneralLaws.{flat_push}
use Rattle.depot_laws.proofs.records.HeldValues.{held_is}

-- ---- the first value of each hash

-- ---- one value more

or_else-assoc : (o p q : Option (List ℕ)) → or_else (or_else o p) q ≡ or_else o (or_else p q)
or_else-assoc None p q = refl
or_else-assoc (Some v) p q = refl

-- the first value of a hash among these and those after them
pub with_behind : (h : List ℕ) (vs ws : List (List ℕ)) → value_with h (vs ++ ws) ≡ or_else (value_with h vs) (value_with h ws)
with_behind h [] ws = refl
with_behind h (v ∷ vs) ws = step (bytes_eq (sha256 v) h) (with_behind h vs ws) where
  step : (b : Bool) → value_with h (vs ++ ws) ≡ or_else (value_with h vs) (value_with h ws) → cond b (Some v) (value_with h (vs ++ ws)) ≡ or_else (cond b (Some v) (value_with h vs)) (value_with h ws)
  step true rest = refl
  step false rest = rest

-- what a record that brings values makes of the value of a hash
held_push : (h : List ℕ) (J : List Record) (r : Record) → value_with h (held (J ++ r ∷ [])) ≡ or_else (value_with h (held J)) (value_with h (value_by r))
held_push h J r = held_is h (J ++ r ∷ []) ∙ ap (value_with h) (flat_push value_by J r) ∙ with_behind h (flat_map value_by J) (value_by r) ∙ ap (λ (o : Option (List ℕ)). or_else o (value_with h (value_by r))) (sym (held_is h J))

-- a record that brings no value leaves them as they are
pub held_stays : (J : List Record) (r : Record) (kept : Values) → value_by r ≡ [] → ((h : List ℕ) → values.held_in kept h ≡ value_with h (held J)) → (h : List ℕ) → values.held_in kept h ≡ value_with h (held (J ++ r ∷ []))
held_stays J r kept none is h = is h ∙ ap (λ (vs : List (List ℕ)). value_with h (first_values [] vs)) (sym (silent value_by J r none))

or_else-nothing : (o : Option (List ℕ)) → o ≡ or_else o None
or_else-nothing None = refl
or_else-nothing (Some v) = refl

or_else-some : (o p : Option (List ℕ)) → IsSome o → o ≡ or_else o p
or_else-some None p some = absurd cc
or_else-some (Some v) p some = refl

is_none : (o : Option (List ℕ)) → (IsSome o → ⊥) → o ≡ None
is_none None none = refl
is_none (Some v) none = absurd (none refl)

-- what it says of values that one was added under its hash
pub record Adds {E : Type 0} (before after : Values) (hash value : List ℕ) (result : Result Taken E) : Type 0 where
  pub known : (result ≡ Ok Known) ↔ IsSome (values.held_in before hash)
  pub new : result ≡ Ok New → values.held_in after hash ≡ Some value
  pub else_stays : result ≢ Ok New → (other : List ℕ) → values.held_in after other ≡ values.held_in before other
  pub others_stay : (other : List ℕ) → other ≢ hash → values.held_in after other ≡ values.held_in before other

-- the values with one more
pub one_added : {E : Type 0} (hash value : List ℕ) (old new : Values) (result : Result Taken E) → hash ≡ sha256 value → IsOk result → Adds old new hash value result → (h : List ℕ) → values.held_in new h ≡ or_else (values.held_in old h) (value_with h (value ∷ []))
one_added hash value old new (Err e) hashed ok a h = absurd cc
one_added hash value old new (Ok Known) hashed ok a h =
    a.else_stays (λ e. cc) h ∙ same (bytes_eq (sha256 value) h) refl where
      same : (b : Bool) → bytes_eq (sha256 value) h ≡ b → values.held_in old h ≡ or_else (values.held_in old h) (cond b (Some value) None)
      same true e = or_else-some _ _ (subst (λ (k : List ℕ). IsSome (values.held_in old k)) (hashed ∙ (bytes_eq-Decides (sha256 value) h).0 e) (a.known.0 refl))
      same false e = or_else-nothing _
one_added hash value old new (Ok New) hashed ok a h = by_hash (bytes_eq (sha256 value) h) refl where
  by_hash : (b : Bool) → bytes_eq (sha256 value) h ≡ b → values.held_in new h ≡ or_else (values.held_in old h) (cond b (Some value) None)
  by_hash true e =
      let same : hash ≡ h = hashed ∙ (bytes_eq-Decides (sha256 value) h).0 e in
      let none : values.held_in old h ≡ None = ap (values.held_in old) (sym same) ∙ is_none _ (λ some. let known : Ok New ≡ Ok Known = a.known.1 some in cc) in
      ap (values.held_in new) (sym same) ∙ a.new refl ∙ sym (ap (λ (o : Option (List ℕ)). or_else o (Some value)) none)
  by_hash false e = a.others_stay h (λ same. both_ways (bytes_eq (sha256 value) h) e ((bytes_eq-Decides (sha256 value) h).1 (sym (same ∙ hashed)))) ∙ or_else-nothing _

-- with one more after those that were added
pub adds_next : {E : Type 0} (hash value : List ℕ) (vs : List (List ℕ)) (old mid new : Values) (result : Result Taken E) → hash ≡ sha256 value → IsOk result → Adds mid new hash value result → AddsAll old mid vs → AddsAll old new (vs ++ value ∷ [])
adds_next hash value vs old mid new result hashed ok a before h =
    one_added hash value mid new result hashed ok a h ∙ ap (λ (o : Option (List ℕ)). or_else o (value_with h (value ∷ []))) (before h) ∙ or_else-assoc (values.held_in old h) (value_with h vs) (value_with h (value ∷ []))
    ∙ ap (or_else (values.held_in old h)) (sym (with_behind h vs (value ∷ [])))

pub adds_none : (old : Values) → AddsAll old old []
adds_none old h = or_else-nothing (values.held_in old h)

-- the values with those of a record
pub held_grows : (J : List Record) (r : Record) (old new : Values) → AddsAll old new (value_by r) → ((h : List ℕ) → values.held_in old h ≡ value_with h (held J)) → (h : List ℕ) → values.held_in new h ≡ value_with h (held (J ++ r ∷ []))
held_grows J r old new a is h = a h ∙ ap (λ (o : Option (List ℕ)). or_else o (value_with h (value_by r))) (is h) ∙ sym (held_push h J r)
