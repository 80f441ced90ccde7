-- The statements of others that a journal grows by are new to it.
use Rattle.std.proofs.Common.{◌≡◌, Bool, true, false, cond, List, [], ◌∷◌, ◌++◌, Option, Some, None, Result, Ok, Err, refl, ap, subst, inl, inr}
use Rattle.depot_base.specs.Statement.{writer_of}
use Rattle.depot_base.specs.declared.check.Check.{Check}
use Rattle.depot_base.specs.declared.check.Check.TheVariants as check
use Rattle.depot_base.specs.declared.proof.Kind.{Kind}
use Rattle.depot_base.specs.declared.record.Record.{Record}
use Rattle.depot_base.specs.declared.record.Record.TheVariants.{Foreign, Conviction}
use Rattle.depot_base.specs.declared.statement.Signed.{Signed}
use Rattle.depot_model.specs.declared.taken.Taken.{Taken}
use Rattle.depot_model.specs.declared.taken.Taken.TheVariants.{New, Known}
use Rattle.depot_model.specs.checks.Checks.{Setting, Given, given_statement, given_proof, given_value, answer_to, opponent, named_opponent, due, added, exposed, growth_by, growth}
use Rattle.depot_model.specs.updates.Conviction.{proof_of}
use Rattle.depot_model.specs.journals.Journal.{foreign, is_convicted, is_vouched}
use Rattle.depot_model.specs.lists.Lists.{IsIn}
use Rattle.depot_model.proofs.lists.Members.{in_parts}
use Rattle.depot_readings.specs.NewRecords.{AreNew}

-- a conviction that is due brings no statement
none_due : (J : List Record) (t : Signed) (o : Option (Signed × Kind)) (s : Signed) → IsIn (Foreign s) (due J t o) → ⊥
unfolding due
none_due J t None s never = never
none_due J t (Some o) s on = by_test (is_convicted J (writer_of t.statement)) on where
  by_test : (b : Bool) → IsIn (Foreign s) (cond b [] (Conviction (proof_of o.1 o.0 t) ∷ [])) → ⊥
  by_test true never = never
  by_test false (inl is) = absurd cc
  by_test false (inr never) = never

-- a refusal brings none
none_exposed : (J : List Record) (x : Given) (c : Check) (s : Signed) → IsIn (Foreign s) (exposed J x c) → ⊥
none_exposed J (given_statement t) (check.Forked kept came kind) s on = none_due J t (opponent (foreign J) t.statement) s on
none_exposed J (given_statement t) (check.Backward h) s on = none_due J t (named_opponent (foreign J) h t.statement) s on
none_exposed J (given_statement t) c s never = never
none_exposed J (given_proof p) c s never = never
none_exposed J (given_value v) c s never = never

-- what is new brings itself
only_added : (J : List Record) (x : Given) (s : Signed) → IsIn (Foreign s) (added J x) → x ≡ given_statement s
unfolding added
only_added J (given_statement t) s on = by_test (is_vouched J t.statement) on where
  only : (front : List Record) → (IsIn (Foreign s) front → ⊥) → IsIn (Foreign s) (front ++ Foreign t ∷ []) → given_statement t ≡ given_statement s
  only front none there = elim (in_parts (Foreign s) front (Foreign t ∷ []) there) [
    | inl before ↦ absurd (none before)
    | inr (inl is) ↦ (let same : Foreign t ≡ Foreign s = is in let one : t ≡ s = cc in ap (λ (u : Signed). given_statement u) one)
    | inr (inr never) ↦ absurd never
  ]

  by_test : (b : Bool) → IsIn (Foreign s) (cond b (due J t (opponent (foreign J) t.statement)) [] ++ Foreign t ∷ []) → given_statement t ≡ given_statement s
  by_test true there = only (due J t (opponent (foreign J) t.statement)) (λ on. none_due J t (opponent (foreign J) t.statement) s on) there
  by_test false there = only [] (λ never. never) there
only_added J (given_proof p) s (inl is) = absurd cc
only_added J (given_proof p) s (inr never) = absurd never
only_added J (given_value v) s (inl is) = absurd cc
only_added J (given_value v) s (inr never) = absurd never

-- so a journal grows by no statement of another but the one that is given
only_by : (J : List Record) (x : Given) (answer : Result Taken Check) (s : Signed) → IsIn (Foreign s) (growth_by J x answer) → x ≡ given_statement s
only_by J x (Ok Known) s never = absurd never
only_by J x (Ok New) s on = only_added J x s on
only_by J x (Err c) s on = absurd (none_exposed J x c s on)

pub only_given : (here : Setting) (J : List Record) (x : Given) (s : Signed) → IsIn (Foreign s) (growth here J x) → x ≡ given_statement s
unfolding growth
only_given here J x s on = only_by J x (answer_to here J x) s on

new_by : (here : Setting) (J : List Record) (x : Given) (answer : Result Taken Check) → answer_to here J x ≡ answer → (s : Signed) → IsIn (Foreign s) (growth_by J x answer) → answer_to here J (given_statement s) ≡ Ok New
new_by here J x (Ok Known) is s never = absurd never
new_by here J x (Ok New) is s on = subst (λ (y : Given). answer_to here J y ≡ Ok New) (only_added J x s on) is
new_by here J x (Err c) is s on = absurd (none_exposed J x c s on)

-- each statement that a journal grows by is new
pub growth_is_new : (here : Setting) (J : List Record) (x : Given) → AreNew here J (growth here J x)
unfolding growth
growth_is_new here J x = λ s on. new_by here J x (answer_to here J x) refl s on
