-- What a journal grows by is none of what was given up, so pruning leaves it as it is.
use Rattle.std.proofs.Common.{◌≡◌, Bool, true, false, cond, List, [], ◌∷◌, ◌++◌, map, Option, Some, None, Result, Ok, Err, refl, sym, ap, ◌∙◌}
use Rattle.std.proofs.lemmas.Bool.{both_ways, false_from_ne_true}
use Rattle.depot_base.specs.Statement.{writer_of}
use Rattle.depot_base.specs.declared.check.Check.{Check}
use Rattle.depot_base.specs.declared.check.Check.TheVariants as check
use Rattle.depot_base.specs.declared.proof.Kind.{Kind}
use Rattle.depot_base.specs.declared.update.Update.{Update}
use Rattle.depot_base.specs.declared.statement.Statement.{Statement}
use Rattle.depot_base.specs.declared.statement.Statement.TheVariants as statement
use Rattle.depot_base.specs.declared.statement.Signed.{Signed}
use Rattle.depot_base.specs.declared.record.Record.{Record}
use Rattle.depot_base.specs.declared.record.Record.TheVariants.{OwnPut, Foreign, Conviction}
use Rattle.depot_model.specs.declared.taken.Taken.{Taken}
use Rattle.depot_model.specs.declared.taken.Taken.TheVariants.{New, Known}
use Rattle.depot_model.specs.lists.Lists.{IsIn}
use Rattle.depot_model.specs.texts.Texts.{id_of_update}
use Rattle.depot_model.specs.updates.Conviction.{proof_of}
use Rattle.depot_model.specs.journals.Journal.{accepted, foreign, has_id, is_convicted, is_vouched}
use Rattle.depot_model.specs.checks.Checks.{Setting, Given, given_statement, given_proof, given_value, opponent, named_opponent, is_kept, answer_to, due, added, exposed, growth_by, growth}
use Rattle.depot_model.proofs.of_updates.NamedIds.{has_id_from, has_id_to}
use Rattle.depot_laws.proofs.records.Taken.{new_is}
use Rattle.depot_model.specs.readers.Pruning.{pruned_statement, pruned_by, pruned}

map_both : (f : Record → Record) (xs ys : List Record) → map f (xs ++ ys) ≡ map f xs ++ map f ys
map_both f [] ys = refl
map_both f (x ∷ xs) ys = ap (λ (zs : List Record). f x ∷ zs) (map_both f xs ys)

module _ (K : List Record) (T : List Update) where
  due_left : (s : Signed) (o : Option (Signed × Kind)) → map (pruned_by T) (due K s o) ≡ due K s o
  unfolding due
  due_left s None = refl
  due_left s (Some o) = by_test (is_convicted K (writer_of s.statement)) where
    by_test : (b : Bool) → map (pruned_by T) (cond b [] (Conviction (proof_of o.1 o.0 s) ∷ [])) ≡ cond b [] (Conviction (proof_of o.1 o.0 s) ∷ [])
    by_test true = refl
    by_test false = refl

  exposed_left : (x : Given) (c : Check) → map (pruned_by T) (exposed K x c) ≡ exposed K x c
  exposed_left (given_statement s) (check.Forked kept came kind) = due_left s (opponent (foreign K) s.statement)
  exposed_left (given_statement s) (check.Backward h) = due_left s (named_opponent (foreign K) h s.statement)
  exposed_left x c = refl

  -- a statement that isn't kept isn't given up
  statement_left : (s : Signed) (st : Statement) → s.statement ≡ st → ((t : Update) → IsIn t T → IsIn t (accepted K)) → is_kept K st ≡ false → pruned_statement T s st ≡ Foreign s
  statement_left s (statement.Update u) is within new = by_test (has_id T (id_of_update u)) (false_from_ne_true (has_id T (id_of_update u)) (λ e.
      let t = has_id_to T (id_of_update u) e in
      both_ways (has_id (accepted K) (id_of_update u)) new (has_id_from (accepted K) (id_of_update u) t.0 (within t.0 t.1.0) t.1.1))) where
        by_test : (b : Bool) → b ≡ false → cond b (OwnPut u []) (Foreign s) ≡ Foreign s
        by_test true e = absurd cc
        by_test false e = refl
  statement_left s (statement.Voucher v) is within new = refl

  added_left : (x : Given) → ((s : Signed) → x ≡ given_statement s → pruned_statement T s s.statement ≡ Foreign s) → map (pruned_by T) (added K x) ≡ added K x
  unfolding added
  added_left (given_statement s) left =
      let forks = due K s (opponent (foreign K) s.statement) in
      map_both (pruned_by T) (cond (is_vouched K s.statement) forks []) (Foreign s ∷ [])
      ∙ ap (λ (rs : List Record). rs ++ pruned_statement T s s.statement ∷ []) (either (is_vouched K s.statement))
      ∙ ap (λ (r : Record). cond (is_vouched K s.statement) forks [] ++ r ∷ []) (left s refl)
    where
      either : (b : Bool) → map (pruned_by T) (cond b (due K s (opponent (foreign K) s.statement)) []) ≡ cond b (due K s (opponent (foreign K) s.statement)) []
      either true = due_left s (opponent (foreign K) s.statement)
      either false = refl
  added_left (given_proof p) left = refl
  added_left (given_value v) left = refl

-- the growth is unchanged
pub pruned_grows : (here : Setting) (J : List Record) (T : List Update) → ((t : Update) → IsIn t T → IsIn t (accepted J)) → (x : Given) → pruned T (J ++ growth here J x) ≡ pruned T J ++ growth here J x
unfolding pruned growth
pruned_grows here J T within x = map_both (pruned_by T) J (growth_by J x (answer_to here J x)) ∙ ap (λ (rs : List Record). map (pruned_by T) J ++ rs) (by_answer (answer_to here J x) refl) where
  by_answer : (a : Result Taken Check) → answer_to here J x ≡ a → map (pruned_by T) (growth_by J x a) ≡ growth_by J x a
  by_answer (Ok Known) is = refl
  by_answer (Ok New) is = added_left J T x (λ s same. statement_left J T s s.statement refl within (new_is here J s (ap (answer_to here J) (sym same) ∙ is)).new)
  by_answer (Err c) is = exposed_left J T x c
