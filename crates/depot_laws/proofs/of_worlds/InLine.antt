-- In a world the operations of each node are observed in the order in which it made them, and all that it accepted is
-- observed before what it then put.
use Rattle.std.proofs.Common.{◌≡◌, ◌&&◌, Bool, true, false, not, List, [], ◌∷◌, ◌++◌, take, drop, Some, None, refl, ap, subst, inl, inr, slice_get, ltb-true, eqb-true}
use Rattle.std.specs.Prelude.{option_map, find}
use Rattle.std.proofs.lemmas.Bool.{and_parts, or_cases, both_ways, false_from_ne_true}
use Rattle.depot_base.specs.declared.update.Update.{Update}
use Rattle.depot_base.specs.declared.record.Record.{Record}
use Rattle.depot_base.specs.declared.record.Record.TheVariants.{OwnPut}
use Rattle.depot_model.specs.lists.Lists.{IsIn}
use Rattle.depot_model.specs.texts.Texts.{IsUpdate}
use Rattle.depot_model.specs.journals.Journal.{accepted, accepted_by}
use Rattle.depot_model.specs.worlds.World.{Correct, World, IsWorld}
use Rattle.depot_model.specs.worlds.Causality.{Operation, write, read_at, IsOperation, puts_of, ObservedBefore, IsOf, MadeBefore}
use Rattle.depot_laws.proofs.lists.Tests.{fails_from_not}
use Rattle.depot_laws.proofs.own_updates.Puts.{put_at, put_is_accepted}
use Rattle.depot_laws.proofs.of_worlds.Worlds.{write_from, write_fits, one_node}
use Rattle.depot_laws.proofs.of_worlds.Traces.{writes_follow}
use Rattle.depot_laws.proofs.of_worlds.TraceLines.{Stands, stands_before, line}
use Rattle.depot_model.proofs.lists.Members.{in_left, in_right}
use Rattle.depot_model.specs.worlds.Audit.{Op, Finding, same_body, is_body_in, operations, observed, pair_of, op_of, is_of, stands_first, is_made_before, is_unordered, unordered, was_accepted_before, is_accepted_before, is_unseen_by, unseen, unordered_found, unseen_found}
use Rattle.depot_laws.proofs.orders.SameBodies.{AllFit, body_is, body_in_to}
use Rattle.depot_laws.proofs.of_worlds.ObservedTests.{taken_fit, dropped_fit, from_operations, observed_from}
use Rattle.depot_laws.proofs.lists.FirstOfRow.{none_from, row_none, map_none}

-- ---- what the tests say

stands_first_to : (us : List Update) (t u : Update) → AllFit us → IsUpdate t → IsUpdate u → stands_first us t u ≡ true → Stands t u us
stands_first_to [] t u fit t_fits u_fits e = absurd cc
stands_first_to (x ∷ us) t u fit t_fits u_fits e = elim (or_cases (same_body x t && is_body_in u us) (stands_first us t u) e) [
  | inl here ↦
      let p = and_parts (same_body x t) (is_body_in u us) here in
      inl (body_is x t (fit x (inl refl)) t_fits p.0, body_in_to u us u_fits (λ y on. fit y (inr on)) p.1)
  | inr later ↦ inr (stands_first_to us t u (λ y on. fit y (inr on)) t_fits u_fits later)
]

-- where one was accepted before the other was put
record WasBefore (J : List Record) (t u : Update) : Type 0 where
  pub before : List Record
  pub by : Record
  pub after : List Record
  pub is : J ≡ before ++ by ∷ after
  pub accepted : IsIn t (accepted before)
  pub put : IsIn u (puts_of (by ∷ []))

before_to : (J : List Record) (t u : Update) → AllFit (accepted J) → IsUpdate t → IsUpdate u → was_accepted_before J t u ≡ true → WasBefore J t u
before_to [] t u fit t_fits u_fits e = absurd cc
before_to (r ∷ J) t u fit t_fits u_fits e = elim (or_cases (is_body_in t (accepted_by r) && is_body_in u (puts_of J)) (was_accepted_before J t u) e) [
  | inl here ↦
      let q = and_parts (is_body_in t (accepted_by r)) (is_body_in u (puts_of J)) here in
      let t_on = body_in_to t (accepted_by r) t_fits (λ y on. fit y (in_left y (accepted_by r) (accepted J) on)) q.0 in
      let u_on = body_in_to u (puts_of J) u_fits (λ y on. fit y (in_right y (accepted_by r) (accepted J) (put_is_accepted y J on))) q.1 in
      let p = put_at u J u_on in
      record {
        before = r ∷ p.before;
        by = OwnPut u p.values;
        after = p.after;
        is = ap (λ (K : List Record). r ∷ K) p.is;
        accepted = in_left t (accepted_by r) (accepted p.before) t_on;
        put = inl refl;
      }
  | inr later ↦
      let w = before_to J t u (λ y on. fit y (in_right y (accepted_by r) (accepted J) on)) t_fits u_fits later in
      record {
        before = r ∷ w.before;
        by = w.by;
        after = w.after;
        is = ap (λ (K : List Record). r ∷ K) w.is;
        accepted = in_right t (accepted_by r) (accepted w.before) w.accepted;
        put = w.put;
      }
]

-- no pair where each fails
no_pair : (W : World) (make : Op → Op → Finding) (test : Operation → Operation → Bool) → ((a b : Operation) → IsIn a (operations W) → IsIn b (operations W) → test a b ≡ false) → pair_of W make test ≡ None
unfolding pair_of
no_pair W make test each = row_none (λ a. option_map (λ b. make (op_of W a) (op_of W b)) (find (test a) (operations W))) (operations W)
    (λ a a_on. map_none (λ b. make (op_of W a) (op_of W b)) (find (test a) (operations W)) (none_from (test a) (operations W) (λ b b_on. each a b a_on b_on)))

module _ (W : World) (world : IsWorld W) where
  puts_fit : (c : Correct) → IsIn c W.nodes → AllFit (puts_of c.journal)
  puts_fit c c_on u on = write_fits W world u (write_from W c u c_on (put_is_accepted u c.journal on))

  of_to : (c : Correct) (a : Operation) → IsIn c W.nodes → IsOperation W a → is_of c a ≡ true → IsOf c a
  of_to c (write u) c_on a_on e = body_in_to u (puts_of c.journal) (write_fits W world u a_on) (puts_fit c c_on) e
  of_to c (read_at d place r) c_on a_on e =
      let same = one_node W world d c a_on.0 c_on (eqb-true _ _ e) in
      (same, subst (λ (x : Correct). slice_get x.reads place ≡ Some r) same a_on.1)

  made_to : (c : Correct) (a b : Operation) → IsIn c W.nodes → IsOperation W a → IsOperation W b → is_made_before c a b ≡ true → MadeBefore c a b
  made_to c (write t) (write u) c_on a_on b_on e = stands_before t u (puts_of c.journal) (stands_first_to (puts_of c.journal) t u (puts_fit c c_on) (write_fits W world t a_on) (write_fits W world u b_on) e)
  made_to c (write u) (read_at d place r) c_on a_on b_on e = body_in_to u (puts_of (take r.at c.journal)) (write_fits W world u a_on) (λ y on. taken_fit W world c r.at c_on y (put_is_accepted y (take r.at c.journal) on)) e
  made_to c (read_at d place r) (write u) c_on a_on b_on e = body_in_to u (puts_of (drop r.at c.journal)) (write_fits W world u b_on) (dropped_fit W world c r.at c_on) e
  made_to c (read_at d i r) (read_at f j s) c_on a_on b_on e = ltb-true i j e

  -- where one is observed before the other, the test of the opposite fails
  not_unobserved : (a b : Operation) → ObservedBefore W a b → not (observed W a b) ≡ true → ⊥
  not_unobserved a b o e = both_ways (observed W a b) (fails_from_not (observed W a b) e) (observed_from W world a b o)

  in_order : (c : Correct) (a b : Operation) → IsIn c W.nodes → IsIn a (operations W) → IsIn b (operations W) → is_unordered W c a b ≡ false
  in_order c a b c_on a_in b_in = false_from_ne_true (is_unordered W c a b) (λ e.
      let a_on = from_operations W world a a_in in
      let b_on = from_operations W world b b_in in
      let p = and_parts (is_of c a) _ e in
      let q = and_parts (is_of c b) _ p.1 in
      let r = and_parts (is_made_before c a b) _ q.1 in
      not_unobserved a b ((line W world c c_on).order a b (of_to c a c_on a_on p.0) (of_to c b c_on b_on q.0) (made_to c a b c_on a_on b_on r.0)) r.1)

  -- so no two operations of a node are unordered
  pub none_unordered : unordered W ≡ None
  unfolding unordered
  none_unordered = row_none (λ (c : Correct). pair_of W (λ a b. unordered_found a b) (is_unordered W c)) W.nodes (λ c c_on. no_pair W (λ a b. unordered_found a b) (is_unordered W c) (λ a b a_in b_in. in_order c a b c_on a_in b_in))

  accepted_fit : (c : Correct) → IsIn c W.nodes → AllFit (accepted c.journal)
  accepted_fit c c_on u on = write_fits W world u (write_from W c u c_on on)

  seen : (c : Correct) (a b : Operation) → IsIn c W.nodes → IsOperation W a → IsOperation W b → is_accepted_before c a b ≡ true → ObservedBefore W a b
  seen c (write t) (write u) c_on a_on b_on e =
      let w = before_to c.journal t u (accepted_fit c c_on) (write_fits W world t a_on) (write_fits W world u b_on) e in
      writes_follow W world c c_on w.before w.by w.after w.is t u w.accepted w.put
  seen c (write u) (read_at d place r) c_on a_on b_on e = absurd cc
  seen c (read_at d place r) b c_on a_on b_on e = absurd cc

  -- nor is an update that a node accepted before its own unseen
  pub none_unseen : unseen W ≡ None
  unfolding unseen
  none_unseen = row_none (λ (c : Correct). pair_of W (λ a b. unseen_found a b) (is_unseen_by W c)) W.nodes (λ c c_on. no_pair W (λ a b. unseen_found a b) (is_unseen_by W c) (λ a b a_in b_in.
      false_from_ne_true (is_unseen_by W c a b) (λ e.
      let p = and_parts (is_accepted_before c a b) _ e in
      not_unobserved a b (seen c a b c_on (from_operations W world a a_in) (from_operations W world b b_in) p.0) p.1)))
