-- A statement that isn't below gets the same answer and growth over the pruned journal as over the whole one.
use Rattle.std.proofs.Common.{◌≡◌, ℕ, eqb, Bool, true, false, not, cond, ◌||◌, ◌&&◌, List, [], ◌∷◌, ◌++◌, Option, Some, None, Result, Ok, Err, refl, sym, ap, subst, ◌∙◌, inl, inr, ◌⊎◌}
use Rattle.std.specs.Prelude.{find, is_some, is_none, option_map}
use Rattle.std.specs.List.{filter}
use Rattle.std.specs.Str.{bytes_eq}
use Rattle.std.proofs.lemmas.Slice.Eq.{bytes_eq-Decides}
use Rattle.std.proofs.lemmas.Bool.{and_parts, and_from, or_cases, or_left, or_right, both_ways, false_from_ne_true}
use Rattle.depot_base.specs.Statement.{writer_of, seq_of}
use Rattle.depot_base.specs.declared.check.Check.{Check}
use Rattle.depot_base.specs.declared.check.Check.TheVariants as check
use Rattle.depot_base.specs.declared.proof.Kind.{Kind}
use Rattle.depot_base.specs.declared.proof.Kind.TheVariants.{SameNumber, SamePrev, Backward, NotUpdate}
use Rattle.depot_base.specs.declared.proof.Proof.{Proof}
use Rattle.depot_base.specs.declared.update.Update.{Update}
use Rattle.depot_base.specs.declared.statement.Statement.{Statement}
use Rattle.depot_base.specs.declared.statement.Statement.TheVariants as statement
use Rattle.depot_base.specs.declared.statement.Signed.{Signed}
use Rattle.depot_base.specs.declared.record.Record.{Record}
use Rattle.depot_base.specs.declared.record.Record.TheVariants.{Foreign, Conviction}
use Rattle.depot_model.specs.declared.taken.Taken.{Taken}
use Rattle.depot_model.specs.declared.taken.Taken.TheVariants.{New, Known}
use Rattle.depot_model.specs.lists.Lists.{IsIn, is_among, when, first}
use Rattle.depot_model.specs.texts.Texts.{id_of_update, id_of_statement}
use Rattle.depot_model.specs.updates.Order.{prevs, parents}
use Rattle.depot_model.specs.updates.Contradictions.{goes_back, is_of_kind, contradicts, kind_of}
use Rattle.depot_model.specs.updates.Conviction.{proof_of}
use Rattle.depot_model.specs.texts.Roster.{has_node, is_signed}
use Rattle.depot_model.specs.journals.Journal.{accepted, foreign, has_id, is_convicted, is_vouched, accused}
use Rattle.depot_model.specs.checks.Checks.{Setting, given_statement, given_proof, sight, content_checks, content_of, opponent, forked_by, forked, refused_as_convicted, statement_checks, proof_checks, first_failed_check, is_kept, is_known, answer_by, answer_to, due, is_update_with, named_opponent, added, exposed, growth_by, growth}
use Rattle.depot_model.specs.journals.Lawful.{IsLawful}
use Rattle.depot_model.proofs.lists.Members.{among_from, among_to}
use Rattle.depot_model.proofs.of_updates.Orders.{one_of_id, parent_is_there}
use Rattle.depot_model.proofs.of_updates.NamedIds.{has_id_from, has_id_to}
use Rattle.depot_base.proofs.GeneralLaws.{eqb_comm, bytes_eq_comm, second_fails}
use Rattle.depot_laws.proofs.records.Causes.{lawful_is_causal}
use Rattle.depot_laws.proofs.convicting.Contrary.{kind_is}
use Rattle.depot_laws.proofs.orders.Follows.{prev_is_parent}
use Rattle.depot_laws.proofs.convicting.Exposures.{kept_is_accepted, step_back_names}
use Rattle.depot_model.specs.readers.Trimming.{names_parent, has_prev, names}
use Rattle.depot_model.specs.readers.Pruning.{is_given_up, pruned, checks_to_signature, below_of, AnswersAlike}
use Rattle.depot_laws.proofs.lists.FirstOfRow.{none_to, none_of_map}
use Rattle.depot_laws.proofs.of_readers.PrunedReadings.{accepted_same, kept_same, is_convicted_same, is_vouched_same, is_left, foreign_left}

-- ---- what contradicts an update names it, or is kept

names_from_parent : (s : Statement) (t : Update) → names_parent s t ≡ true → names s t ≡ true
unfolding names
names_from_parent s t e = or_left (names_parent s t) _ e

names_from_seq : (s : Statement) (t : Update) → eqb (writer_of s) t.writer ≡ true → eqb (seq_of s) t.seq ≡ true → names s t ≡ true
unfolding names
names_from_seq s t writer seq = or_right (names_parent s t) _ (and_from _ _ writer (or_left (eqb (seq_of s) t.seq) (has_prev s t.prev) seq))

names_from_prev : (s : Statement) (t : Update) → eqb (writer_of s) t.writer ≡ true → has_prev s t.prev ≡ true → names s t ≡ true
unfolding names
names_from_prev s t writer prev = or_right (names_parent s t) _ (and_from _ _ writer (or_right (eqb (seq_of s) t.seq) (has_prev s t.prev) prev))

parent_from : (u t : Update) → is_among (id_of_update t) (prevs u) ≡ true → names (statement.Update u) t ≡ true
parent_from u t e = names_from_parent (statement.Update u) t (among_from (id_of_update t) (parents u) (prev_is_parent u (id_of_update t) (among_to (id_of_update t) (prevs u) e)))

module _ (here : Setting) (J : List Record) (lawful : IsLawful here J) where
  -- the parent of an accepted update is kept
  parent_kept : (t u : Update) → IsIn t (accepted J) → is_among (id_of_update u) (prevs t) ≡ true → has_id (accepted J) (id_of_update u) ≡ true
  parent_kept t u t_on e = elim (parent_is_there [] (accepted J) t (id_of_update u) (lawful_is_causal here J lawful) t_on (prev_is_parent t (id_of_update u) (among_to (id_of_update u) (prevs t) e))) [
    | inl never ↦ absurd never
    | inr p ↦ has_id_from (accepted J) (id_of_update u) p.0 p.1.0 p.1.1
  ]

  of_kind : (k : Kind) (t : Update) (s : Statement) → IsIn t (accepted J) → eqb t.writer (writer_of s) ≡ true → is_of_kind k (statement.Update t) s ≡ true → (names s t ≡ true) ⊎ (is_kept J s ≡ true)
  unfolding is_of_kind
  of_kind SameNumber t s t_on writer e = inl (names_from_seq s t (eqb_comm (writer_of s) t.writer ∙ writer) (eqb_comm (seq_of s) t.seq ∙ e))
  of_kind SamePrev t (statement.Update u) t_on writer e = inl (names_from_prev (statement.Update u) t (eqb_comm u.writer t.writer ∙ writer) (bytes_eq_comm u.prev t.prev ∙ e))
  of_kind SamePrev t (statement.Voucher v) t_on writer e = absurd cc
  of_kind Backward t (statement.Update u) t_on writer e = elim (or_cases (goes_back t u) (goes_back u t) e) [
    | inl back ↦ inl (parent_from u t (and_parts _ _ back).0)
    | inr ahead ↦ inr (parent_kept t u t_on (and_parts _ _ ahead).0)
  ]
  of_kind Backward t (statement.Voucher v) t_on writer e = absurd cc
  of_kind NotUpdate t s t_on writer e = absurd cc

  -- a statement that contradicts an accepted update names it, or is kept
  pub contrary_names : (k : Kind) (t : Update) (s : Statement) → IsIn t (accepted J) → contradicts k (statement.Update t) s ≡ true → (names s t ≡ true) ⊎ (is_kept J s ≡ true)
  unfolding contradicts
  contrary_names k t s t_on e = let p = and_parts _ _ e in of_kind k t s t_on (and_parts _ _ p.0).0 p.1

-- ---- opponents among what is left

kind_none : (o : Option Kind) → ((k : Kind) → o ≡ Some k → ⊥) → o ≡ None
kind_none None never = refl
kind_none (Some k) never = absurd (never k refl)

-- the first with a kind, or the one among the rest
abbrev with_kind : Signed → Option (Signed × Kind) → Option Kind → Option (Signed × Kind)
with_kind f rest None = rest
with_kind f rest (Some k) = Some (f, k)

opponent_first : (f : Signed) (fs : List Signed) (s : Statement) → opponent (f ∷ fs) s ≡ with_kind f (opponent fs s) (kind_of f.statement s)
unfolding opponent
opponent_first f fs s = by_kind (kind_of f.statement s) where
  by_kind : (o : Option Kind) → (elim o as (λ x. Option (Signed × Kind)) [ None ↦ opponent fs s | Some k ↦ Some (f, k) ]) ≡ with_kind f (opponent fs s) o
  by_kind None = refl
  by_kind (Some k) = refl

opponent_left : (test : Signed → Bool) (fs : List Signed) (s : Statement) → ((f : Signed) → IsIn f fs → test f ≡ false → kind_of f.statement s ≡ None) → opponent (filter test fs) s ≡ opponent fs s
opponent_left test [] s each = refl
opponent_left test (f ∷ fs) s each = by_test (test f) refl (opponent_left test fs s (λ g on. each g (inr on))) where
  by_test : (b : Bool) → test f ≡ b → opponent (filter test fs) s ≡ opponent fs s → opponent (cond b (f ∷ filter test fs) (filter test fs)) s ≡ opponent (f ∷ fs) s
  by_test true is rest = opponent_first f (filter test fs) s ∙ ap (λ (o : Option (Signed × Kind)). with_kind f o (kind_of f.statement s)) rest ∙ sym (opponent_first f fs s)
  by_test false is rest = rest ∙ sym (opponent_first f fs s ∙ ap (with_kind f (opponent fs s)) (each f (inl refl) is))

named_left : (test : Signed → Bool) (fs : List Signed) (h : List ℕ) (s : Statement) → ((f : Signed) → IsIn f fs → test f ≡ false → is_update_with h f.statement ≡ false) → named_opponent (filter test fs) h s ≡ named_opponent fs h s
unfolding named_opponent
named_left test [] h s each = refl
named_left test (f ∷ fs) h s each = by_test (test f) refl (is_update_with h f.statement) refl (named_left test fs h s (λ g on. each g (inr on))) where
  by_test : (b : Bool) → test f ≡ b → (c : Bool) → is_update_with h f.statement ≡ c → named_opponent (filter test fs) h s ≡ named_opponent fs h s → named_opponent (cond b (f ∷ filter test fs) (filter test fs)) h s ≡ cond c (option_map (λ k. (f, k)) (kind_of f.statement s)) (named_opponent fs h s)
  by_test true is c c_is rest = rw c_is (ap (λ (o : Option (Signed × Kind)). cond c (option_map (λ k. (f, k)) (kind_of f.statement s)) o) rest)
  by_test false is true c_is rest = absurd (both_ways (is_update_with h f.statement) (each f (inl refl) is) c_is)
  by_test false is false c_is rest = rest

-- what is given up is an update that is trimmed
given_up_is : (T : List Update) (st : Statement) → not (is_given_up T st) ≡ false → (u : Update) × ((st ≡ statement.Update u) × (has_id T (id_of_update u) ≡ true))
given_up_is T (statement.Update u) e = (u, (refl, is_one (has_id T (id_of_update u)) e)) where
  is_one : (b : Bool) → not (b || false) ≡ false → b ≡ true
  is_one true e = refl
  is_one false e = absurd cc
given_up_is T (statement.Voucher v) e = absurd cc

module _ (here : Setting) (J : List Record) (T : List Update) (lawful : IsLawful here J) (trimmed_in : (t : Update) → IsIn t T → IsIn t (accepted J)) where
  -- an accepted update that is given up is one of the trimmed ones
  trimmed_is : (f : Signed) → IsIn f (foreign J) → is_left T f ≡ false → (u : Update) × ((f.statement ≡ statement.Update u) × (IsIn u T × IsIn u (accepted J)))
  trimmed_is f f_on e =
      let g = given_up_is T f.statement e in
      let x = has_id_to T (id_of_update g.0) g.1.1 in
      let u_on = kept_is_accepted J f g.0 f_on g.1.0 in
      let same = one_of_id [] (accepted J) x.0 g.0 (lawful_is_causal here J lawful) (trimmed_in x.0 x.1.0) u_on x.1.1 in
      (g.0, (g.1.0, (subst (λ (y : Update). IsIn y T) same x.1.0, u_on)))

  module _ (s : Signed) (new : is_kept J s.statement ≡ false) (free : (t : Update) → IsIn t T → names s.statement t ≡ false) where
    no_kind_left : (f : Signed) → IsIn f (foreign J) → is_left T f ≡ false → kind_of f.statement s.statement ≡ None
    no_kind_left f f_on e =
        let t = trimmed_is f f_on e in
        kind_none (kind_of f.statement s.statement) (λ k k_is. elim (contrary_names here J lawful k t.0 s.statement t.1.1.1 (subst (λ (x : Statement). contradicts k x s.statement ≡ true) t.1.0 (kind_is f.statement s.statement k k_is))) [
          | inl named ↦ both_ways _ (free t.0 t.1.1.0) named
          | inr kept ↦ both_ways _ new kept
        ])

    opponent_same : opponent (foreign (pruned T J)) s.statement ≡ opponent (foreign J) s.statement
    opponent_same = ap (λ (fs : List Signed). opponent fs s.statement) (foreign_left T J) ∙ opponent_left (is_left T) (foreign J) s.statement no_kind_left

    named_same : (u : Update) (h : List ℕ) → s.statement ≡ statement.Update u → IsIn h (prevs u) → named_opponent (foreign (pruned T J)) h s.statement ≡ named_opponent (foreign J) h s.statement
    named_same u h is on = ap (λ (fs : List Signed). named_opponent fs h s.statement) (foreign_left T J) ∙ named_left (is_left T) (foreign J) h s.statement (λ f f_on e.
        let t = trimmed_is f f_on e in
        false_from_ne_true (is_update_with h f.statement) (λ with.
        let id : id_of_update t.0 ≡ h = one_with t.0 h (subst (λ (x : Statement). is_update_with h x ≡ true) t.1.0 with) in
        both_ways _ (free t.0 t.1.1.0) (subst (λ (x : Statement). names x t.0 ≡ true) (sym is) (parent_from u t.0 (among_from (id_of_update t.0) (prevs u) (subst (λ (k : List ℕ). IsIn k (prevs u)) (sym id) on))))))
      where
        one_with : (t : Update) (h : List ℕ) → is_update_with h (statement.Update t) ≡ true → id_of_update t ≡ h
        one_with t h e = elim (or_cases (bytes_eq (id_of_update t) h) false e) [ inl same ↦ (bytes_eq-Decides (id_of_update t) h).0 same | inr never ↦ absurd cc ]

    -- ---- the checks

    due_same : (o : Option (Signed × Kind)) → due (pruned T J) s o ≡ due J s o
    unfolding due
    due_same None = refl
    due_same (Some o) = ap (λ (b : Bool). cond b [] (Conviction (proof_of o.1 o.0 s) ∷ [])) (is_convicted_same T J (writer_of s.statement))

    forked_same : forked (pruned T J) s.statement ≡ forked J s.statement
    unfolding forked
    forked_same =
        ap (λ (b : Bool). cond (b || is_vouched (pruned T J) s.statement) None (forked_by s.statement (opponent (foreign (pruned T J)) s.statement))) (is_convicted_same T J (writer_of s.statement))
        ∙ ap (λ (b : Bool). cond (is_convicted J (writer_of s.statement) || b) None (forked_by s.statement (opponent (foreign (pruned T J)) s.statement))) (is_vouched_same T J s.statement)
        ∙ ap (λ (o : Option (Signed × Kind)). cond (is_convicted J (writer_of s.statement) || is_vouched J s.statement) None (forked_by s.statement o)) opponent_same

    refused_same : (st : Statement) → refused_as_convicted (pruned T J) st ≡ refused_as_convicted J st
    unfolding refused_as_convicted
    refused_same (statement.Update u) =
        ap (λ (b : Bool). when (b && not (is_vouched (pruned T J) (statement.Update u))) (check.Convicted u.writer)) (is_convicted_same T J u.writer)
        ∙ ap (λ (b : Bool). when (is_convicted J u.writer && not b) (check.Convicted u.writer)) (is_vouched_same T J (statement.Update u))
    refused_same (statement.Voucher v) = ap (λ (b : Bool). when b (check.VoucherConvicted v.node)) (is_convicted_same T J v.node)

    content_same : (st : Statement) → content_of (pruned T J) st ≡ content_of J st
    content_same (statement.Update u) = ap (λ (us : List Update). content_checks u (sight us u)) (accepted_same T J)
    content_same (statement.Voucher v) = refl

    checks_same : statement_checks here (pruned T J) s ≡ statement_checks here J s
    unfolding statement_checks
    checks_same =
        ap (λ (os : List (Option Check)). checks_to_signature here s ++ (os ++ (forked (pruned T J) s.statement ∷ refused_as_convicted (pruned T J) s.statement ∷ []))) (content_same s.statement)
        ∙ ap (λ (o : Option Check). checks_to_signature here s ++ (content_of J s.statement ++ (o ∷ refused_as_convicted (pruned T J) s.statement ∷ []))) forked_same
        ∙ ap (λ (o : Option Check). checks_to_signature here s ++ (content_of J s.statement ++ (forked J s.statement ∷ o ∷ []))) (refused_same s.statement)

    answer_same : answer_to here (pruned T J) (given_statement s) ≡ answer_to here J (given_statement s)
    unfolding answer_to is_known first_failed_check
    answer_same =
        ap (λ (b : Bool). answer_by (has_node here.listed (writer_of s.statement) && b) (first (statement_checks here (pruned T J) s))) (kept_same T J s.statement)
        ∙ ap (λ (os : List (Option Check)). answer_by (has_node here.listed (writer_of s.statement) && is_kept J s.statement) (first os)) checks_same

    -- ---- the growth

    added_same : added (pruned T J) (given_statement s) ≡ added J (given_statement s)
    unfolding added
    added_same =
        ap (λ (b : Bool). cond b (due (pruned T J) s (opponent (foreign (pruned T J)) s.statement)) [] ++ Foreign s ∷ []) (is_vouched_same T J s.statement)
        ∙ ap (λ (rs : List Record). cond (is_vouched J s.statement) rs [] ++ Foreign s ∷ []) (due_same (opponent (foreign (pruned T J)) s.statement) ∙ ap (due J s) opponent_same)

    exposed_same : (c : Check) → answer_to here J (given_statement s) ≡ Err c → exposed (pruned T J) (given_statement s) c ≡ exposed J (given_statement s) c
    exposed_same (check.Forked kept came kind) e = due_same (opponent (foreign (pruned T J)) s.statement) ∙ ap (due J s) opponent_same
    exposed_same (check.Backward h) e =
        let u = step_back_names here J s h e in
        due_same (named_opponent (foreign (pruned T J)) h s.statement) ∙ ap (due J s) (named_same u.0 h u.1.0 u.1.1)
    exposed_same c e = refl

    growth_same : growth here (pruned T J) (given_statement s) ≡ growth here J (given_statement s)
    unfolding growth
    growth_same = ap (growth_by (pruned T J) (given_statement s)) answer_same ∙ by_answer (answer_to here J (given_statement s)) refl where
      by_answer : (a : Result Taken Check) → answer_to here J (given_statement s) ≡ a → growth_by (pruned T J) (given_statement s) a ≡ growth_by J (given_statement s) a
      by_answer (Ok Known) is = refl
      by_answer (Ok New) is = added_same
      by_answer (Err c) is = exposed_same c is

-- ---- what fails before the journal is asked

either_first : (os ps : List (Option Check)) (c : Check) → first os ≡ Some c → first (os ++ ps) ≡ Some c
either_first [] ps c e = absurd cc
either_first (None ∷ os) ps c e = either_first os ps c e
either_first (Some x ∷ os) ps c e = e

-- these checks convict nobody
early_exposes_none : (here : Setting) (K : List Record) (s : Signed) (c : Check) → first (checks_to_signature here s) ≡ Some c → exposed K (given_statement s) c ≡ []
early_exposes_none here K s c e = rows (not (has_node here.listed (writer_of s.statement))) (eqb (writer_of s.statement) here.me) (not (is_signed here.verifies here.listed s)) e where
  rows : (a b d : Bool) → first (when a (check.UnknownWriter (writer_of s.statement)) ∷ when b (check.NotMine (id_of_statement s.statement)) ∷ when d (check.BadSignature (writer_of s.statement)) ∷ []) ≡ Some c → exposed K (given_statement s) c ≡ []
  rows true b d e = let same : check.UnknownWriter (writer_of s.statement) ≡ c = cc in subst (λ (x : Check). exposed K (given_statement s) x ≡ []) same refl
  rows false true d e = let same : check.NotMine (id_of_statement s.statement) ≡ c = cc in subst (λ (x : Check). exposed K (given_statement s) x ≡ []) same refl
  rows false false true e = let same : check.BadSignature (writer_of s.statement) ≡ c = cc in subst (λ (x : Check). exposed K (given_statement s) x ≡ []) same refl
  rows false false false e = absurd cc

early_answer : (here : Setting) (K : List Record) (s : Signed) (c : Check) → is_known here K (given_statement s) ≡ false → first (checks_to_signature here s) ≡ Some c → answer_to here K (given_statement s) ≡ Err c
unfolding answer_to first_failed_check statement_checks
early_answer here K s c new e =
    ap (λ (b : Bool). answer_by b (first (statement_checks here K s))) new ∙ ap (answer_by false) (either_first (checks_to_signature here s) (content_of K s.statement ++ (forked K s.statement ∷ refused_as_convicted K s.statement ∷ [])) c e)

known_answer : (here : Setting) (K : List Record) (s : Signed) → is_known here K (given_statement s) ≡ true → answer_to here K (given_statement s) ≡ Ok Known
unfolding answer_to
known_answer here K s e = ap (λ (b : Bool). answer_by b (first_failed_check here K (given_statement s))) e

known_same : (here : Setting) (J : List Record) (T : List Update) (s : Signed) → is_known here (pruned T J) (given_statement s) ≡ is_known here J (given_statement s)
unfolding is_known
known_same here J T s = ap (λ (b : Bool). has_node here.listed (writer_of s.statement) && b) (kept_same T J s.statement)

-- ---- the law

by_one_answer : (here : Setting) (J K : List Record) (s : Signed) (a : Result Taken Check) → answer_to here K (given_statement s) ≡ a → answer_to here J (given_statement s) ≡ a → growth_by K (given_statement s) a ≡ growth_by J (given_statement s) a → AnswersAlike here J K (given_statement s)
unfolding growth
by_one_answer here J K s a one two same = record { answer = one ∙ sym two; growth = ap (growth_by K (given_statement s)) one ∙ same ∙ sym (ap (growth_by J (given_statement s)) two) }

-- what passes the first checks is of a node of the roster
node_from_early : (here : Setting) (s : Signed) → first (checks_to_signature here s) ≡ None → has_node here.listed (writer_of s.statement) ≡ true
node_from_early here s e = row (has_node here.listed (writer_of s.statement)) e where
  row : (b : Bool) → first (when (not b) (check.UnknownWriter (writer_of s.statement)) ∷ when (eqb (writer_of s.statement) here.me) (check.NotMine (id_of_statement s.statement)) ∷ when (not (is_signed here.verifies here.listed s)) (check.BadSignature (writer_of s.statement)) ∷ []) ≡ None → b ≡ true
  row true e = refl
  row false e = absurd cc

known_parts : (here : Setting) (J : List Record) (s : Signed) → is_known here J (given_statement s) ≡ false → (has_node here.listed (writer_of s.statement) && is_kept J s.statement) ≡ false
unfolding is_known
known_parts here J s e = e

module _ (here : Setting) (J : List Record) (T : List Update) (lawful : IsLawful here J) (trimmed_in : (t : Update) → IsIn t T → IsIn t (accepted J)) where
  below_cases : (s : Signed) (known : Bool) (early : Option Check) → is_known here J (given_statement s) ≡ known → first (checks_to_signature here s) ≡ early → cond (known || is_some early) None (option_map id_of_update (find (names s.statement) T)) ≡ None → AnswersAlike here J (pruned T J) (given_statement s)
  below_cases s true early known_is early_is e =
      by_one_answer here J (pruned T J) s (Ok Known) (known_answer here (pruned T J) s (known_same here J T s ∙ known_is)) (known_answer here J s known_is) refl
  below_cases s false (Some c) known_is early_is e =
      by_one_answer here J (pruned T J) s (Err c) (early_answer here (pruned T J) s c (known_same here J T s ∙ known_is) early_is) (early_answer here J s c known_is early_is) (early_exposes_none here (pruned T J) s c early_is ∙ sym (early_exposes_none here J s c early_is))
  below_cases s false None known_is early_is e =
      let free : (t : Update) → IsIn t T → names s.statement t ≡ false = none_to (names s.statement) T (none_of_map id_of_update (find (names s.statement) T) e) in
      let new = second_fails (has_node here.listed (writer_of s.statement)) (is_kept J s.statement) (node_from_early here s early_is) (known_parts here J s known_is) in
      record { answer = answer_same here J T lawful trimmed_in s new free; growth = growth_same here J T lawful trimmed_in s new free }

  -- a statement that isn't below is answered alike
  pub statements_alike : (s : Signed) → below_of here J T s ≡ None → AnswersAlike here J (pruned T J) (given_statement s)
  unfolding below_of
  statements_alike s e = below_cases s (is_known here J (given_statement s)) (first (checks_to_signature here s)) refl refl e

proof_answer : (here : Setting) (J : List Record) (T : List Update) (p : Proof) → answer_to here (pruned T J) (given_proof p) ≡ answer_to here J (given_proof p)
unfolding answer_to is_known first_failed_check
proof_answer here J T p = ap (λ (b : Bool). answer_by (is_none (first (proof_checks here p)) && b) (first (proof_checks here p))) (is_convicted_same T J (accused p))

added_proof : (J : List Record) (T : List Update) (p : Proof) → added (pruned T J) (given_proof p) ≡ added J (given_proof p)
unfolding added
added_proof J T p = refl

-- a proof is answered alike whatever is given up
pub proofs_alike : (here : Setting) (J : List Record) (T : List Update) (p : Proof) → AnswersAlike here J (pruned T J) (given_proof p)
unfolding growth
proofs_alike here J T p =
    let same = proof_answer here J T p in
    record { answer = same; growth = ap (growth_by (pruned T J) (given_proof p)) same ∙ by_answer (answer_to here J (given_proof p)) } where
      by_answer : (a : Result Taken Check) → growth_by (pruned T J) (given_proof p) a ≡ growth_by J (given_proof p) a
      by_answer (Ok Known) = refl
      by_answer (Ok New) = added_proof J T p
      by_answer (Err c) = refl
