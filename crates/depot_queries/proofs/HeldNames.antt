-- Held values by the names that writes give them.
use Rattle.std.proofs.Common.{◌≡◌, ℕ, length, Bool, eqb, List, Some, None, sym, ap, ◌∙◌}
use Rattle.std.proofs.lemmas.Bool.{eq-eqb, ne_eqb}
use Rattle.std.specs.Prelude.{option_and_then}
use Rattle.depot_base.specs.declared.record.Record.{Record}
use Rattle.depot_base.specs.declared.update.NamedValue.{NamedValue}
use Rattle.depot_model.specs.journals.Journal.{held, value_with, held_as}
use Rattle.depot_model.specs.lists.Lists.{when}

-- a value of the hash and of the length is that of the name
pub held_is : (J : List Record) (n : NamedValue) (v : List ℕ) → Some v ≡ value_with n.hash (held J) → length v ≡ n.size → Some v ≡ held_as J n
held_is J n v found long = sym (ap (option_and_then (λ w. when (eqb (length w) n.size) w)) (sym found) ∙ ap (λ (b : Bool). when b v) (eq-eqb _ _ long))

-- one of another length isn't
pub held_is_other : (J : List Record) (n : NamedValue) (v : List ℕ) → Some v ≡ value_with n.hash (held J) → (length v ≡ n.size → ⊥) → None ≡ held_as J n
held_is_other J n v found long = sym (ap (option_and_then (λ w. when (eqb (length w) n.size) w)) (sym found) ∙ ap (λ (b : Bool). when b v) (ne_eqb _ _ long))

-- and where there is none of the hash, there is none
pub held_is_none : (J : List Record) (n : NamedValue) → None ≡ value_with n.hash (held J) → None ≡ held_as J n
held_is_none J n found = sym (ap (option_and_then (λ w. when (eqb (length w) n.size) w)) (sym found))
