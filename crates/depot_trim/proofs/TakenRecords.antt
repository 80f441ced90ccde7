-- What a reader's journal grows by: statements of others, and convictions of nodes of the roster.
use Rattle.std.proofs.Common.{◌≡◌, refl, Bool, true, false, cond, List, [], ◌∷◌, ◌++◌, Option, Some, None, Result, Ok, Err, sym, subst, append_assoc}
use Rattle.std.specs.List.{AllByRecursion}
use Rattle.depot_base.specs.Statement.{writer_of}
use Rattle.depot_base.specs.declared.check.Check.{Check}
use Rattle.depot_base.specs.declared.check.Check.TheVariants as check
use Rattle.depot_base.specs.declared.proof.Kind.{Kind}
use Rattle.depot_base.specs.declared.record.Record.{Record}
use Rattle.depot_base.specs.declared.record.Record.TheVariants.{Birth, OwnPut, OwnVoucher, Foreign, Conviction, Held}
use Rattle.depot_base.specs.declared.statement.Signed.{Signed}
use Rattle.depot_base.proofs.GeneralLaws.{all_both}
use Rattle.depot_model.specs.declared.taken.Taken.{Taken}
use Rattle.depot_model.specs.declared.taken.Taken.TheVariants.{New, Known}
use Rattle.depot_model.specs.checks.Checks.{Setting, Given, given_statement, given_proof, given_value, opponent, named_opponent, answer_to, due, added, exposed, growth_by, growth}
use Rattle.depot_model.specs.updates.Conviction.{proof_of}
use Rattle.depot_model.specs.journals.Journal.{foreign, is_convicted, is_vouched}
use Rattle.depot_model.specs.journals.Lawful.{IsLawful}
use Rattle.depot_laws.proofs.lists.Splits.{lawful_front}
use Rattle.depot_model.proofs.lists.Members.{all_at}
use Rattle.depot_readings.specs.NewRecords.{AreNew}
use Rattle.depot_readings.specs.Taken.{IsTaken}
use Rattle.depot_readings.proofs.StateGrowth.{accused_is_listed}
use Rattle.depot_trim.specs.ReaderDecides.{IsSaid}

-- a statement of another that is new to a journal, or a conviction
abbrev pub IsOfTakes : Setting → List Record → Record → Type 0
IsOfTakes here J (Foreign s) = answer_to here J (given_statement s) ≡ Ok New
IsOfTakes here J (Conviction p) = Unit {0}
IsOfTakes here J r = ⊥

module _ (here : Setting) (J : List Record) where
  due_of_takes : (s : Signed) (o : Option (Signed × Kind)) → AllByRecursion (IsOfTakes here J) (due J s o)
  unfolding due
  due_of_takes s None = tt
  due_of_takes s (Some o) = by_test (is_convicted J (writer_of s.statement)) where
    by_test : (b : Bool) → AllByRecursion (IsOfTakes here J) (cond b [] (Conviction (proof_of o.1 o.0 s) ∷ []))
    by_test true = tt
    by_test false = (tt, tt)

  front_of_takes : (s : Signed) (b : Bool) → AllByRecursion (IsOfTakes here J) (cond b (due J s (opponent (foreign J) s.statement)) [])
  front_of_takes s true = due_of_takes s (opponent (foreign J) s.statement)
  front_of_takes s false = tt

  added_of_takes : (x : Given) → IsSaid x → answer_to here J x ≡ Ok New → AllByRecursion (IsOfTakes here J) (added J x)
  unfolding added
  added_of_takes (given_statement s) said new =
      all_both (IsOfTakes here J) (cond (is_vouched J s.statement) (due J s (opponent (foreign J) s.statement)) []) (Foreign s ∷ []) (front_of_takes s (is_vouched J s.statement)) (new, tt)
  added_of_takes (given_proof p) said new = (tt, tt)
  added_of_takes (given_value v) said new = absurd said

  exposed_of_takes : (x : Given) (c : Check) → AllByRecursion (IsOfTakes here J) (exposed J x c)
  exposed_of_takes (given_statement s) (check.Forked kept came kind) = due_of_takes s (opponent (foreign J) s.statement)
  exposed_of_takes (given_statement s) (check.Backward h) = due_of_takes s (named_opponent (foreign J) h s.statement)
  exposed_of_takes x c = tt

  pub growth_of_takes : (x : Given) → IsSaid x → AllByRecursion (IsOfTakes here J) (growth here J x)
  unfolding growth
  growth_of_takes x said = by_answer (answer_to here J x) refl where
    by_answer : (a : Result Taken Check) → answer_to here J x ≡ a → AllByRecursion (IsOfTakes here J) (growth_by J x a)
    by_answer (Ok Known) e = tt
    by_answer (Ok New) e = added_of_takes x said e
    by_answer (Err c) e = exposed_of_takes x c

  -- its statements are new
  pub all_new : (new : List Record) → AllByRecursion (IsOfTakes here J) new → AreNew here J new
  all_new new all s on = all_at (IsOfTakes here J) new (Foreign s) all on

one_taken : (here : Setting) (K J : List Record) (r : Record) → IsOfTakes here K r → IsLawful here (J ++ r ∷ []) → IsTaken here.listed r
one_taken here K J (Birth node h) of l = absurd of
one_taken here K J (OwnPut u values) of l = absurd of
one_taken here K J (OwnVoucher v) of l = absurd of
one_taken here K J (Foreign s) of l = tt
one_taken here K J (Conviction p) of l = accused_is_listed here J p l
one_taken here K J (Held value) of l = absurd of

-- where the journal stays lawful, the roster has the convicted
pub all_taken : (here : Setting) (K J new : List Record) → AllByRecursion (IsOfTakes here K) new → IsLawful here (J ++ new) → AllByRecursion (IsTaken here.listed) new
all_taken here K J [] of l = tt
all_taken here K J (r ∷ rs) of l =
    let whole : IsLawful here ((J ++ r ∷ []) ++ rs) = subst (IsLawful here) (sym (append_assoc J (r ∷ []) rs)) l in
    (one_taken here K J r of.0 (lawful_front here (J ++ r ∷ []) rs whole), all_taken here K (J ++ r ∷ []) rs of.1 whole)
