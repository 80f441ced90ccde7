-- Contrary statements of others have a convicted writer, and no node convicts itself.
use Rattle.std.proofs.Common.{◌≡◌, List, [], ◌∷◌, ◌++◌, Bool, true, false, ◌||◌, cond, Option, Some, None, Ok, refl, sym, ap, subst, ◌∙◌, inl, inr}
use Rattle.std.specs.List.{AllByRecursion}
use Rattle.std.proofs.lemmas.Bool.{eqb-true, eqb-false, both_ways, cases_Bool, false_from_ne_true}
use Rattle.depot_base.specs.Statement.{writer_of}
use Rattle.depot_base.specs.declared.statement.Statement.{Statement}
use Rattle.depot_base.specs.declared.statement.Signed.{Signed}
use Rattle.depot_base.specs.declared.proof.Kind.{Kind}
use Rattle.depot_base.specs.declared.proof.Kind.TheVariants.{SameNumber, SamePrev, Backward, NotUpdate}
use Rattle.depot_base.specs.declared.proof.Proof.{Proof}
use Rattle.depot_base.specs.declared.record.Record.{Record}
use Rattle.depot_base.specs.declared.record.Record.TheVariants.{Birth, OwnPut, OwnVoucher, Foreign, Conviction, Held}
use Rattle.depot_model.specs.declared.taken.Taken.TheVariants.{New}
use Rattle.depot_model.specs.lists.Lists.{IsIn}
use Rattle.depot_model.specs.updates.Contradictions.{contradicts, kind_of}
use Rattle.depot_model.specs.journals.Journal.{foreign, foreign_by, accused, proof_by, is_convicted, is_vouched}
use Rattle.depot_model.specs.checks.Checks.{Setting, given_statement, given_proof, opponent, forked_by, forked, proof_checks, first_failed_check, is_known, answer_to, due, added, growth_by, growth}
use Rattle.depot_model.specs.journals.Lawful.{MayFollow, IsLawful}
use Rattle.depot_model.proofs.lists.FirstLaws.{each_is_none, when-none}
use Rattle.depot_model.proofs.of_updates.ContradictionLaws.{contradicts_comm, same_writer, pair_kind}
use Rattle.depot_laws.proofs.lists.Splits.{given_by, flat_cases, lawful_from_end}
use Rattle.depot_laws.proofs.records.Taken.{AllNone, new_from_answer, new_is}
use Rattle.depot_laws.proofs.convicting.Contrary.{kinds, foreign_is}
use Rattle.depot_laws.proofs.convicting.Convictions.{convicted_by, convicted_before}
use Rattle.depot_laws.proofs.own_updates.OwnAgree.{not_itself}

-- ---- opponents

-- two statements never contradict each other as a voucher and a text do
never_of : (a b : Statement) → contradicts NotUpdate a b ≡ false
never_of a b = false_from_ne_true (contradicts NotUpdate a b) (λ e. pair_kind NotUpdate a b e)

no_kind_of : (k : Kind) (a b : Statement) → AllByRecursion (λ (o : Option Kind). o ≡ None) (kinds a b) → contradicts k a b ≡ false
no_kind_of SameNumber a b each = when-none _ _ each.0
no_kind_of SamePrev a b each = when-none _ _ each.1.0
no_kind_of Backward a b each = when-none _ _ each.1.1.0
no_kind_of NotUpdate a b each = never_of a b

-- without a kind the two don't contradict each other
pub no_kind : (k : Kind) (a b : Statement) → kind_of a b ≡ None → contradicts k a b ≡ false
unfolding kind_of
no_kind k a b e = no_kind_of k a b (each_is_none (kinds a b) e)

none_step : (f : Signed) (k : Option Kind) (rest : Option (Signed × Kind)) → (elim k as (λ x. Option (Signed × Kind)) [ None ↦ rest | Some j ↦ Some (f, j) ]) ≡ None → (k ≡ None) × (rest ≡ None)
none_step f None rest e = (refl, e)
none_step f (Some k) rest e = absurd cc

-- a statement with no opponent contradicts none of them
no_opponent : (fs : List Signed) (f : Signed) (s : Statement) → opponent fs s ≡ None → IsIn f fs → (k : Kind) → contradicts k f.statement s ≡ false
unfolding opponent
no_opponent [] f s e never k = absurd never
no_opponent (g ∷ fs) f s e (inl here) k = no_kind k f.statement s (ap (λ (x : Signed). kind_of x.statement s) (sym here) ∙ (none_step g (kind_of g.statement s) (opponent fs s) e).0)
no_opponent (g ∷ fs) f s e (inr there) k = no_opponent fs f s (none_step g (kind_of g.statement s) (opponent fs s) e).1 there k

-- what is taken without a conviction has no opponent
quiet : (J : List Record) (s : Signed) (vouched : Bool) (o : Option (Signed × Kind)) → is_convicted J (writer_of s.statement) ≡ false
    → cond (false || vouched) None (forked_by s.statement o) ≡ None
    → (cond vouched (due J s o) [] ++ Foreign s ∷ []) ≡ Foreign s ∷ []
    → o ≡ None
unfolding due
quiet J s vouched None free unforked grown = refl
quiet J s false (Some o) free unforked grown = absurd cc
quiet J s true (Some o) free unforked grown = let g = rw free at grown in absurd cc

alone : (here : Setting) (J : List Record) (s : Signed) → MayFollow here J (Foreign s) → is_convicted J (writer_of s.statement) ≡ false → opponent (foreign J) s.statement ≡ None
unfolding growth added forked
alone here J s may free =
    let grown : added J (given_statement s) ≡ Foreign s ∷ [] = sym (ap (growth_by J (given_statement s)) may.0) ∙ may.1 in
    let unforked = rw free at (new_is here J s may.0).passes.forked in
    quiet J s (is_vouched J s.statement) (opponent (foreign J) s.statement) free unforked grown

-- a statement that comes after a contrary one has a convicted writer
came_convicted : (here : Setting) (J : List Record) (r : Record) (s t : Signed) → MayFollow here J r → IsIn s (foreign J) → IsIn t (foreign_by r) → (k : Kind) → contradicts k s.statement t.statement ≡ true → is_convicted J (writer_of t.statement) ≡ true
came_convicted here J r s t may s_on t_on k e = elim (cases_Bool (is_convicted J (writer_of t.statement))) [
  | inl c ↦ c
  | inr free ↦
      let taken : MayFollow here J (Foreign t) = subst (λ (x : Record). MayFollow here J x) (foreign_is t r t_on) may in
      absurd (both_ways _ (no_opponent (foreign J) s t.statement (alone here J t taken free) s_on k) e)
]

-- ---- all statements of others

abbrev Convicts : List Record → Type 0
Convicts J = (a b : Signed) → IsIn a (foreign J) → IsIn b (foreign J) → (k : Kind) → contradicts k a.statement b.statement ≡ true → is_convicted J (writer_of a.statement) ≡ true

convicts_more : (here : Setting) (J : List Record) (r : Record) → MayFollow here J r → Convicts J → Convicts (J ++ r ∷ [])
convicts_more here J r may before a b a_on b_on k e =
    let writer : writer_of a.statement ≡ writer_of b.statement = eqb-true _ _ (same_writer k a.statement b.statement e) in
    convicted_before J (r ∷ []) (writer_of a.statement) (elim (flat_cases foreign_by a J r a_on) [
      | inl a_old ↦ elim (flat_cases foreign_by b J r b_on) [
        | inl b_old ↦ before a b a_old b_old k e
        | inr b_now ↦ subst (λ n. is_convicted J n ≡ true) (sym writer) (came_convicted here J r a b may a_old b_now k e)
      ]
      | inr a_now ↦ elim (flat_cases foreign_by b J r b_on) [
        | inl b_old ↦ came_convicted here J r b a may b_old a_now k (contradicts_comm k b.statement a.statement ∙ e)
        | inr b_now ↦
            let same : Foreign a ≡ Foreign b = sym (foreign_is a r a_now) ∙ foreign_is b r b_now in
            let one : a ≡ b = cc in
            absurd (not_itself k a.statement b.statement (ap (λ (x : Signed). x.statement) one) e)
      ]
    ])

-- contrary statements of others have a convicted writer
pub contrary_convict : (here : Setting) (J : List Record) → IsLawful here J → Convicts J
contrary_convict here J l = lawful_from_end here Convicts (λ a b never on k e. absurd never) (λ J r l allowed. convicts_more here J r allowed.may) J l

-- ---- the node itself

accepted_proof : (here : Setting) (J : List Record) (p : Proof) → answer_to here J (given_proof p) ≡ Ok New → accused p ≡ here.me → ⊥
unfolding answer_to first_failed_check proof_checks
accepted_proof here J p e same =
    let q = new_from_answer (is_known here J (given_proof p)) (first_failed_check here J (given_proof p)) e in
    let each : AllNone (proof_checks here p) = each_is_none (proof_checks here p) q.1 in
    eqb-false _ _ (when-none _ _ each.1.0) same

not_mine : (here : Setting) (J : List Record) (r : Record) (p : Proof) → MayFollow here J r → IsIn p (proof_by r) → accused p ≡ here.me → ⊥
not_mine here J (Conviction q) p may (inl e) same = accepted_proof here J q may (ap accused e ∙ same)
not_mine here J (Conviction q) p may (inr never) same = never
not_mine here J (Birth node roster) p may never same = never
not_mine here J (OwnPut u value) p may never same = never
not_mine here J (OwnVoucher v) p may never same = never
not_mine here J (Foreign s) p may never same = never
not_mine here J (Held value) p may never same = never

-- no lawful journal convicts its own node
pub nobody_convicts_itself : (here : Setting) (J : List Record) → IsLawful here J → is_convicted J here.me ≡ false
nobody_convicts_itself here J l = false_from_ne_true (is_convicted J here.me) (λ e.
    let p = convicted_by J here.me e in
    let g = given_by proof_by p.0 J p.1.0 in
    not_mine here g.before g.by p.0 (l.each g.before g.by g.after g.is).may g.given p.1.1)
