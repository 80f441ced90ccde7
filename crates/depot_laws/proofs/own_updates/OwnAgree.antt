-- A node's own statements never contradict each other.
use Rattle.std.proofs.Common.{◌≡◌, ℕ, nat_le, List, [], ◌∷◌, ◌++◌, length, true, false, refl, sym, ap, subst, ◌∙◌, inl, inr, ◌⊎◌, arith}
use Rattle.std.proofs.lemmas.Slice.Eq.{bytes_eq-Decides}
use Rattle.std.proofs.lemmas.Bool.{eqb-true, leb-true, both_ways, false_from_ne_true, or_cases, and_parts}
use Rattle.depot_base.specs.Zeros.{zeros}
use Rattle.depot_base.specs.Statement.{seq_of}
use Rattle.depot_base.specs.declared.update.Update.{Update}
use Rattle.depot_base.specs.declared.voucher.Voucher.{Voucher}
use Rattle.depot_base.specs.declared.statement.Statement.{Statement}
use Rattle.depot_base.specs.declared.statement.Statement.TheVariants as statement
use Rattle.depot_base.specs.declared.proof.Kind.{Kind}
use Rattle.depot_base.specs.declared.proof.Kind.TheVariants.{SameNumber, SamePrev, Backward, NotUpdate}
use Rattle.depot_base.specs.declared.record.Record.{Record}
use Rattle.depot_base.specs.declared.record.Record.TheVariants.{Birth, OwnPut, OwnVoucher, Foreign, Conviction, Held}
use Rattle.depot_model.specs.lists.Lists.{IsIn}
use Rattle.depot_model.specs.texts.Texts.{text_of_statement, id_of_update}
use Rattle.depot_model.specs.updates.Order.{prevs}
use Rattle.depot_model.specs.updates.Contradictions.{goes_back, is_of_kind, contradicts}
use Rattle.depot_model.specs.journals.Journal.{accepted, own, own_by, last_own, last_own_behind}
use Rattle.depot_model.specs.checks.Checks.{Setting}
use Rattle.depot_model.specs.checks.Own.{IsFresh}
use Rattle.depot_model.specs.journals.Lawful.{MayPut, MayVouch, MayFollow, IsLawful}
use Rattle.depot_model.proofs.lists.Members.{among_to}
use Rattle.depot_model.proofs.of_updates.ContradictionLaws.{contradicts_comm, other_body}
use Rattle.depot_model.specs.updates.Chains.{IsEarlierStep}
use Rattle.depot_base.proofs.GeneralLaws.{flat_push}
use Rattle.depot_laws.proofs.lists.Splits.{flat_cases, lawful_from_end}
use Rattle.depot_model.proofs.of_updates.NamedIds.{has_id_from}
use Rattle.depot_laws.proofs.records.Causes.{own_in_accepted, prevs_is}
use Rattle.depot_laws.proofs.own_updates.OwnSteps.{own_seq, below_next}
use Rattle.depot_laws.proofs.orders.Prevs.{KnowsPrev, put_prev, accepted_prev}
use Rattle.depot_laws.proofs.own_updates.Nexts.{next_of}

-- a fresh id is no prev of these
not_named : (J : List Record) (w x : Update) → IsFresh J (id_of_update w) → KnowsPrev (accepted J) x → x.prev ≡ id_of_update w → ⊥
not_named J w x fresh (inl none) same = fresh.named (sym same ∙ none)
not_named J w x fresh (inr p) same = both_ways _ fresh.new (has_id_from (accepted J) (id_of_update w) p.prev p.known (p.id ∙ same))

-- ---- the last own update

last_own-append : (h : List ℕ) (ss ts : List Statement) → last_own_behind h (ss ++ ts) ≡ last_own_behind (last_own_behind h ss) ts
last_own-append h [] ts = refl
last_own-append h (statement.Update u ∷ ss) ts = last_own-append (id_of_update u) ss ts
last_own-append h (statement.Voucher v ∷ ss) ts = last_own-append h ss ts

pub last_own-pushed : (J : List Record) (r : Record) → last_own (J ++ r ∷ []) ≡ last_own_behind (last_own J) (own_by r)
last_own-pushed J r = ap (last_own_behind zeros) (flat_push own_by J r) ∙ last_own-append zeros (own J) (own_by r)

-- no own update has the last one as its prev
abbrev pub IsOpen : List Record → Type 0
IsOpen J = (x : Update) → IsIn (statement.Update x) (own J) → x.prev ≡ last_own J → ⊥

open_more : (here : Setting) (J : List Record) (r : Record) → IsLawful here J → MayFollow here J r → IsOpen J → (x : Update) → IsIn (statement.Update x) (own J) ⊎ IsIn (statement.Update x) (own_by r) → x.prev ≡ last_own_behind (last_own J) (own_by r) → ⊥
open_more here J (OwnPut w value) l may before x (inl old) e = not_named J w x may.fresh (accepted_prev here J x l (own_in_accepted x J old)) e
open_more here J (OwnPut w value) l may before x (inr (inl now)) e =
    let same : w ≡ x = cc in
    not_named J w w may.fresh (put_prev here J w l (next_of may)) (ap (λ (y : Update). y.prev) same ∙ e)
open_more here J (OwnPut w value) l may before x (inr (inr never)) e = never
open_more here J (OwnVoucher v) l may before x (inl old) e = before x old e
open_more here J (OwnVoucher v) l may before x (inr (inl now)) e = absurd cc
open_more here J (OwnVoucher v) l may before x (inr (inr never)) e = never
open_more here J (Birth node roster) l may before x (inl old) e = before x old e
open_more here J (Birth node roster) l may before x (inr never) e = never
open_more here J (Foreign s) l may before x (inl old) e = before x old e
open_more here J (Foreign s) l may before x (inr never) e = never
open_more here J (Conviction p) l may before x (inl old) e = before x old e
open_more here J (Conviction p) l may before x (inr never) e = never
open_more here J (Held value) l may before x (inl old) e = before x old e
open_more here J (Held value) l may before x (inr never) e = never

pub open_end : (here : Setting) (J : List Record) → IsLawful here J → IsOpen J
open_end here J l = lawful_from_end here IsOpen (λ x never e. never)
    (λ J r l allowed before x on e. open_more here J r l allowed.may before x (flat_cases own_by (statement.Update x) J r on) (e ∙ last_own-pushed J r)) J l

-- ---- a statement after the own ones

-- an earlier step that the other names goes not back
not_back : (t u : Update) → goes_back t u ≡ true → IsEarlierStep t u → ⊥
not_back t u e earlier = elim (or_cases (nat_le u.seq t.seq) (nat_le u.clock t.clock) (and_parts _ _ e).1) [
  | inl le ↦ omega (arith, leb-true _ _ le, earlier.seq)
  | inr le ↦ omega (arith, leb-true _ _ le, earlier.clock)
]

put_agrees : (here : Setting) (J : List Record) (w : Update) (values : List (List ℕ)) (k : Kind) (a : Statement) → IsLawful here J → MayPut here J w values → IsIn a (own J) → is_of_kind k a (statement.Update w) ≡ true → ⊥
unfolding is_of_kind
put_agrees here J w values SameNumber a l may on e =
    let below = own_seq here J l a on in
    let same : seq_of a ≡ w.seq = eqb-true _ _ e in
    let next : w.seq ≡ length (own J) = ap (λ (x : Update). x.seq) (next_of may) in
    omega arith
put_agrees here J w values SamePrev (statement.Update x) l may on e = open_end here J l x on ((bytes_eq-Decides x.prev w.prev).0 e ∙ ap (λ (x : Update). x.prev) (next_of may))
put_agrees here J w values SamePrev (statement.Voucher v) l may on e = absurd cc
put_agrees here J w values Backward (statement.Update x) l may on e = elim (or_cases (goes_back x w) (goes_back w x) e) [
  | inl back ↦ not_back x w back (below_next here J x w l (next_of may) on)
  | inr ahead ↦
      let named : x.prev ≡ id_of_update w = (prevs_is x (id_of_update w) (among_to (id_of_update w) (prevs x) (and_parts _ _ ahead).0)).0 in
      not_named J w x may.fresh (accepted_prev here J x l (own_in_accepted x J on)) named
]
put_agrees here J w values Backward (statement.Voucher v) l may on e = absurd cc
put_agrees here J w values NotUpdate a l may on e = absurd cc

voucher_agrees : (here : Setting) (J : List Record) (v : Voucher) (k : Kind) (a : Statement) → IsLawful here J → MayVouch here J v → IsIn a (own J) → is_of_kind k a (statement.Voucher v) ≡ true → ⊥
unfolding is_of_kind
voucher_agrees here J v SameNumber a l may on e =
    let below = own_seq here J l a on in
    let same : seq_of a ≡ v.seq = eqb-true _ _ e in
    let next : v.seq ≡ length (own J) = may.seq in
    omega arith
voucher_agrees here J v SamePrev (statement.Update x) l may on e = absurd cc
voucher_agrees here J v SamePrev (statement.Voucher w) l may on e = absurd cc
voucher_agrees here J v Backward (statement.Update x) l may on e = absurd cc
voucher_agrees here J v Backward (statement.Voucher w) l may on e = absurd cc
voucher_agrees here J v NotUpdate a l may on e = absurd cc

of_kind : (k : Kind) (a b : Statement) → contradicts k a b ≡ true → is_of_kind k a b ≡ true
unfolding contradicts
of_kind k a b e = (and_parts _ _ e).1

-- an own statement agrees with those before it
agrees : (here : Setting) (J : List Record) (r : Record) (a b : Statement) → IsLawful here J → MayFollow here J r → IsIn a (own J) → IsIn b (own_by r) → (k : Kind) → contradicts k a b ≡ true → ⊥
agrees here J (OwnPut w values) a b l may on (inl same) k e = put_agrees here J w values k a l may on (of_kind k a (statement.Update w) (subst (λ (x : Statement). contradicts k a x ≡ true) (sym same) e))
agrees here J (OwnPut w values) a b l may on (inr never) k e = never
agrees here J (OwnVoucher v) a b l may on (inl same) k e = voucher_agrees here J v k a l may on (of_kind k a (statement.Voucher v) (subst (λ (x : Statement). contradicts k a x ≡ true) (sym same) e))
agrees here J (OwnVoucher v) a b l may on (inr never) k e = never
agrees here J (Birth node roster) a b l may on never k e = never
agrees here J (Foreign s) a b l may on never k e = never
agrees here J (Conviction p) a b l may on never k e = never
agrees here J (Held value) a b l may on never k e = never

-- ---- all own statements

-- a record reports one own statement at most
pub same_own : (r : Record) (a b : Statement) → IsIn a (own_by r) → IsIn b (own_by r) → a ≡ b
same_own (OwnPut w value) a b (inl p) (inl q) = sym p ∙ q
same_own (OwnPut w value) a b (inl p) (inr never) = absurd never
same_own (OwnPut w value) a b (inr never) q = absurd never
same_own (OwnVoucher v) a b (inl p) (inl q) = sym p ∙ q
same_own (OwnVoucher v) a b (inl p) (inr never) = absurd never
same_own (OwnVoucher v) a b (inr never) q = absurd never
same_own (Birth node roster) a b never q = absurd never
same_own (Foreign s) a b never q = absurd never
same_own (Conviction c) a b never q = absurd never
same_own (Held value) a b never q = absurd never

-- a statement doesn't contradict itself
pub not_itself : (k : Kind) (a b : Statement) → a ≡ b → contradicts k a b ≡ true → ⊥
not_itself k a b same e = both_ways _ (other_body k a b e) ((bytes_eq-Decides (text_of_statement a) (text_of_statement b)).1 (ap (λ (x : Statement). text_of_statement x) same))

abbrev Agrees : List Record → Type 0
Agrees J = (a b : Statement) → IsIn a (own J) → IsIn b (own J) → (k : Kind) → contradicts k a b ≡ true → ⊥

-- no two own statements contradict each other
pub own_agree : (here : Setting) (J : List Record) → IsLawful here J → Agrees J
own_agree here J l = lawful_from_end here Agrees (λ a b never on k e. never)
    (λ J r l allowed before a b a_on b_on k e. elim (flat_cases own_by a J r a_on) [
      | inl a_old ↦ elim (flat_cases own_by b J r b_on) [
        | inl b_old ↦ before a b a_old b_old k e
        | inr b_now ↦ agrees here J r a b l allowed.may a_old b_now k e
      ]
      | inr a_now ↦ elim (flat_cases own_by b J r b_on) [
        | inl b_old ↦ agrees here J r b a l allowed.may b_old a_now k (contradicts_comm k b a ∙ e)
        | inr b_now ↦ not_itself k a b (same_own r a b a_now b_now) e
      ]
    ]) J l

-- the test of it fails
pub own_statements_agree : (here : Setting) (J : List Record) → IsLawful here J → (a b : Statement) → IsIn a (own J) → IsIn b (own J) → (k : Kind) → contradicts k a b ≡ false
own_statements_agree here J l a b a_on b_on k = false_from_ne_true (contradicts k a b) (own_agree here J l a b a_on b_on k)
