-- A node's own statements have one seq each, and its last own update is after all others.
use Rattle.std.proofs.Common.{◌≡◌, ℕ, List, [], ◌∷◌, ◌++◌, refl, sym, subst, ◌∙◌, inl, inr, ◌⊎◌, arith}
use Rattle.depot_base.specs.Statement.{seq_of}
use Rattle.depot_base.specs.declared.update.Update.{Update}
use Rattle.depot_base.specs.declared.statement.Statement.{Statement}
use Rattle.depot_base.specs.declared.statement.Statement.TheVariants as statement
use Rattle.depot_base.specs.declared.record.Record.{Record}
use Rattle.depot_base.specs.declared.record.Record.TheVariants.{OwnPut}
use Rattle.depot_base.specs.Zeros.{zeros}
use Rattle.depot_model.specs.lists.Lists.{IsIn}
use Rattle.depot_model.specs.texts.Texts.{id_of_update}
use Rattle.depot_model.specs.updates.Order.{Precedes}
use Rattle.depot_model.specs.journals.Journal.{accepted, own, own_by, last_own, last_own_behind}
use Rattle.depot_model.specs.checks.Checks.{Setting}
use Rattle.depot_model.specs.journals.Lawful.{IsLawful}
use Rattle.depot_model.specs.worlds.Causality.{puts_of}
use Rattle.depot_laws.proofs.lists.Splits.{flat_cases, flat_left, flat_gives, lawful_from_end, lawful_before}
use Rattle.depot_model.proofs.lists.Members.{in_right}
use Rattle.depot_laws.proofs.records.Causes.{last_own_is}
use Rattle.depot_laws.proofs.own_updates.Nexts.{next_of}
use Rattle.depot_laws.proofs.own_updates.OwnSteps.{next_own_is, own_seq}
use Rattle.depot_laws.proofs.own_updates.OwnAgree.{same_own, open_end}
use Rattle.depot_laws.proofs.own_updates.Puts.{put_by, put_at, put_allowed, put_is_accepted, put_from_own}
use Rattle.depot_laws.proofs.orders.Follows.{in_line, next_prev, put_follows}
use Rattle.depot_laws.proofs.of_worlds.TraceLines.{Stands, stand, put_after}

-- ---- seqs

abbrev HaveOneSeq : List Record → Type 0
HaveOneSeq J = (a b : Statement) → IsIn a (own J) → IsIn b (own J) → seq_of a ≡ seq_of b → a ≡ b

-- no two own statements have one seq
pub one_seq : (here : Setting) (J : List Record) → IsLawful here J → HaveOneSeq J
one_seq here J l = lawful_from_end here HaveOneSeq (λ a b never on e. absurd never)
    (λ J r l allowed before a b a_on b_on e. elim (flat_cases own_by a J r a_on) [
      | inl a_old ↦ elim (flat_cases own_by b J r b_on) [
        | inl b_old ↦ before a b a_old b_old e
        | inr b_now ↦ absurd (omega (arith, own_seq here J l a a_old, (next_own_is here J r b allowed.may b_now).seq, e))
      ]
      | inr a_now ↦ elim (flat_cases own_by b J r b_on) [
        | inl b_old ↦ absurd (omega (arith, own_seq here J l b b_old, (next_own_is here J r a allowed.may a_now).seq, e))
        | inr b_now ↦ same_own r a b a_now b_now
      ]
    ]) J l

-- ---- puts and statements

-- an own update is an own statement
pub own_from_put : (u : Update) (J : List Record) → IsIn u (puts_of J) → IsIn (statement.Update u) (own J)
own_from_put u J on =
    let p = put_at u J on in
    subst (λ (K : List Record). IsIn (statement.Update u) (own K)) (sym p.is) (own_here p.before p.values p.after u) where
      own_here : (before : List Record) (values : List (List ℕ)) (after : List Record) (u : Update) → IsIn (statement.Update u) (own (before ++ OwnPut u values ∷ after))
      own_here before values after u = flat_gives own_by (statement.Update u) (OwnPut u values) (before ++ OwnPut u values ∷ after) (in_right (OwnPut u values) before (OwnPut u values ∷ after) (inl refl)) (inl refl)

-- ---- the last own update

-- an own update whose id is that of the last
pub record IsLastOwn (J : List Record) : Type 0 where
  pub update : Update
  pub on : IsIn update (puts_of J)
  pub id : id_of_update update ≡ last_own J

last_is_one : (h : List ℕ) (ss : List Statement) (w : Update) → IsIn (statement.Update w) ss → (u : Update) × (IsIn (statement.Update u) ss × (id_of_update u ≡ last_own_behind h ss))
last_is_one h [] w never = absurd never
last_is_one h (statement.Update u ∷ ss) w on = elim (last_own_is (id_of_update u) ss) [
  | inl same ↦ (u, (inl refl, sym same))
  | inr later ↦ (later.0, (inr later.1.0, later.1.1))
]
last_is_one h (statement.Voucher v ∷ ss) w (inl here) = absurd cc
last_is_one h (statement.Voucher v ∷ ss) w (inr there) = let r = last_is_one h ss w there in (r.0, (inr r.1.0, r.1.1))

-- where there is an own update, there is a last one
pub last_put : (J : List Record) (w : Update) → IsIn w (puts_of J) → IsLastOwn J
last_put J w on = let r = last_is_one zeros (own J) w (own_from_put w J on) in record { update = r.0; on = put_from_own r.0 J r.1.0; id = r.1.1 }

-- nothing is put after the last own update
none_behind : (here : Setting) (J : List Record) (x w : Update) → IsLawful here J → id_of_update x ≡ last_own J → Stands x w (puts_of J) → ⊥
none_behind here J x w l last behind =
    let p = put_after x w J behind in
    let front = lawful_before here J p.put.before (OwnPut w p.put.values) p.put.after l p.put.is in
    let own_later : (y : Update) → IsIn y (puts_of p.put.before) → IsIn (statement.Update y) (own J) = λ y on. own_from_put y J (subst (λ (K : List Record). IsIn y (puts_of K)) (sym p.put.is) (flat_left put_by y p.put.before (OwnPut w p.put.values ∷ p.put.after) on)) in
    elim (in_line here p.put.before front x p.earlier) [
      | inl end ↦ open_end here J l w (own_from_put w J (subst (λ (K : List Record). IsIn w (puts_of K)) (sym p.put.is) (flat_gives put_by w (OwnPut w p.put.values) (p.put.before ++ OwnPut w p.put.values ∷ p.put.after) (in_right _ p.put.before (OwnPut w p.put.values ∷ p.put.after) (inl refl)) (inl refl))))
          (next_prev here.me p.put.before w (next_of (put_allowed here J w l p.put)) ∙ sym end ∙ last)
      | inr n ↦ open_end here J l n.next (own_later n.next n.on) (n.prev ∙ last)
    ]

-- each own update is the last one or precedes it
pub last_follows : (here : Setting) (J : List Record) (x w : Update) → IsLawful here J → IsIn x (puts_of J) → id_of_update x ≡ last_own J → IsIn w (puts_of J) → (w ≡ x) ⊎ Precedes (accepted J) w x
last_follows here J x w l x_on last w_on = elim (stand w x (puts_of J) w_on x_on) [
  | inl same ↦ inl same
  | inr other ↦ elim other [
    | inl first ↦ let p = put_after w x J first in inr (put_follows here J x w l p.put (put_is_accepted w p.put.before p.earlier))
    | inr second ↦ absurd (none_behind here J x w l last second)
  ]
]
