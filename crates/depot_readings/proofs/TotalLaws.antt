-- What is counted, with one record more.
use Rattle.std.proofs.Common.{◌≡◌, ℕ, ◌+◌, max, List, [], ◌∷◌, ◌++◌, length, Some, refl, sym, ap, ◌∙◌, arith, length-append}
use Rattle.std.proofs.lemmas.List.{append-nil}
use Rattle.depot_base.specs.Zeros.{zeros}
use Rattle.depot_base.specs.declared.proof.Proof.{Proof}
use Rattle.depot_base.specs.declared.record.Record.{Record}
use Rattle.depot_base.specs.declared.record.Record.TheVariants.{OwnPut, OwnVoucher, Foreign, Conviction}
use Rattle.depot_base.specs.declared.statement.Signed.{Signed}
use Rattle.depot_base.specs.declared.statement.Statement.{Statement}
use Rattle.depot_base.specs.declared.statement.Statement.TheVariants as statements
use Rattle.depot_base.specs.declared.update.Update.{Update}
use Rattle.depot_base.specs.declared.voucher.Voucher.{Voucher}
use Rattle.depot_model.specs.checks.Checks.{Setting}
use Rattle.depot_model.specs.updates.History.{greatest_clock}
use Rattle.depot_model.specs.journals.Journal.{accepted, accepted_by, own, own_by, last_own_behind, update_in}
use Rattle.depot_model.specs.journals.Lawful.{IsLawful}
use Rattle.depot_model.specs.checks.Room.{foreign_leaves}
use Rattle.depot_model.specs.texts.Texts.{id_of_update}
use Rattle.depot_laws.proofs.own_updates.Nexts.{next_of}
use Rattle.depot_laws.proofs.records.Counts.{put_count, silent_leaves, taken_count}
use Rattle.depot_laws.proofs.lists.Splits.{accepted_push, lawful_front, lawful_last, silent}
use Rattle.depot_base.proofs.GeneralLaws.{flat_push}
use Rattle.depot_readings.specs.LeavesWith.{leaves_then, number_after}
use Rattle.depot_readings.specs.Totals.{AreTotals, AreTaken}
use Rattle.depot_readings.specs.declared.totals.Totals.{Totals}

-- ---- each count

last_push : (h : List ℕ) (ss : List Statement) (s : Statement) → last_own_behind h (ss ++ s ∷ []) ≡ last_own_behind (last_own_behind h ss) (s ∷ [])
last_push h [] s = refl
last_push h (statements.Update u ∷ ss) s = last_push (id_of_update u) ss s
last_push h (statements.Voucher v ∷ ss) s = last_push h ss s

max_turn : (a b c : ℕ) → max a (max b c) ≡ max b (max a c)
max_turn a b c = omega arith

clock_push : (us : List Update) (u : Update) → greatest_clock (us ++ u ∷ []) ≡ max u.clock (greatest_clock us)
clock_push [] u = refl
clock_push (t ∷ ts) u = ap (max t.clock) (clock_push ts u) ∙ max_turn t.clock u.clock (greatest_clock ts)

-- the greatest clock with that of a statement that is an update
pub clock_with : (us : List Update) (s : Statement) (u : Update) (n m : ℕ) → s ≡ statements.Update u → n ≡ max u.clock m → m ≡ greatest_clock us → n ≡ greatest_clock (us ++ update_in s)
clock_with us s u n m is greatest old = greatest ∙ ap (max u.clock) old ∙ sym (clock_push us u) ∙ ap (λ (x : Statement). greatest_clock (us ++ update_in x)) (sym is)

-- and of one that is a voucher
pub clock_without : (us : List Update) (s : Statement) (v : Voucher) (n : ℕ) → s ≡ statements.Voucher v → n ≡ greatest_clock us → n ≡ greatest_clock (us ++ update_in s)
clock_without us s v n is old = old ∙ ap greatest_clock (sym (append-nil us)) ∙ ap (λ (x : Statement). greatest_clock (us ++ update_in x)) (sym is)

-- the leaves with those of a statement that is an update
pub number_with : (us : List Update) (leaves n : ℕ) (s : Statement) → Some n ≡ leaves_then us leaves s → n ≡ number_after us leaves s
number_with us leaves n (statements.Update u) e = cc
number_with us leaves n (statements.Voucher v) e = absurd cc

-- ---- a record that brings no update, and is no own statement

pub silent_totals : (me : ℕ) (J : List Record) (r : Record) (t : Totals) → accepted_by r ≡ [] → own_by r ≡ [] → AreTotals me J t → AreTotals me (J ++ r ∷ []) t
silent_totals me J r t no_update no_own a = record {
  own = a.own ∙ ap length (sym (silent own_by J r no_own));
  leaves = a.leaves ∙ ap length (sym (silent_leaves me J r no_update));
  clock = a.clock ∙ ap greatest_clock (sym (silent accepted_by J r no_update));
  last = a.last ∙ ap (last_own_behind zeros) (sym (silent own_by J r no_own));
}

-- ---- an own voucher

own_push : (J : List Record) (r : Record) (s : Statement) → own_by r ≡ s ∷ [] → own (J ++ r ∷ []) ≡ own J ++ s ∷ []
own_push J r s brings = flat_push own_by J r ∙ ap (λ (ss : List Statement). own J ++ ss) brings

own_more : (J : List Record) (r : Record) (s : Statement) (n : ℕ) → own_by r ≡ s ∷ [] → n ≡ length (own J) → n + 1 ≡ length (own (J ++ r ∷ []))
own_more J r s n brings is = omega (arith, is, ap length (own_push J r s brings), length-append (own J) (s ∷ []))

pub voucher_totals : (me : ℕ) (J : List Record) (v : Voucher) (t : Totals) → AreTotals me J t → AreTotals me (J ++ OwnVoucher v ∷ []) (record { own = t.own + 1; leaves = t.leaves; clock = t.clock; last = t.last })
voucher_totals me J v t a = record {
  own = own_more J (OwnVoucher v) (statements.Voucher v) t.own refl a.own;
  leaves = a.leaves ∙ ap length (sym (silent_leaves me J (OwnVoucher v) refl));
  clock = a.clock ∙ ap greatest_clock (sym (silent accepted_by J (OwnVoucher v) refl));
  last = a.last ∙ sym (ap (last_own_behind zeros) (own_push J (OwnVoucher v) (statements.Voucher v) refl) ∙ last_push zeros (own J) (statements.Voucher v));
}

-- ---- an own update

pub put_totals : (here : Setting) (J : List Record) (u : Update) (values : List (List ℕ)) (t : Totals) (id : List ℕ) (clock : ℕ) → IsLawful here (J ++ OwnPut u values ∷ []) → id ≡ id_of_update u → clock ≡ max u.clock t.clock → AreTotals here.me J t
    → AreTotals here.me (J ++ OwnPut u values ∷ []) (record { own = t.own + 1; leaves = t.leaves; clock = clock; last = id })
put_totals here J u values t id clock l named greatest a =
    let may = (lawful_last here J (OwnPut u values) l).may in
    record {
      own = own_more J (OwnPut u values) (statements.Update u) t.own refl a.own;
      leaves = a.leaves ∙ sym (put_count here J u values (lawful_front here J (OwnPut u values ∷ []) l) (next_of may) may.fresh);
      clock = greatest ∙ ap (max u.clock) a.clock ∙ sym (ap greatest_clock (accepted_push J (OwnPut u values)) ∙ clock_push (accepted J) u);
      last = named ∙ sym (ap (last_own_behind zeros) (own_push J (OwnPut u values) (statements.Update u) refl) ∙ last_push zeros (own J) (statements.Update u));
    }

-- ---- a statement of another

pub leaves_after : (here : Setting) (J : List Record) (s : Signed) → IsLawful here (J ++ Foreign s ∷ []) → number_after (accepted J) (length (foreign_leaves here.me J)) s.statement ≡ length (foreign_leaves here.me (J ++ Foreign s ∷ []))
leaves_after here J s l = by_kind s.statement refl where
  by_kind : (x : Statement) → s.statement ≡ x → number_after (accepted J) (length (foreign_leaves here.me J)) x ≡ length (foreign_leaves here.me (J ++ Foreign s ∷ []))
  by_kind (statements.Update u) is = sym (taken_count here J s u (lawful_front here J (Foreign s ∷ []) l) is (lawful_last here J (Foreign s) l).may.0)
  by_kind (statements.Voucher v) is = sym (ap length (silent_leaves here.me J (Foreign s) (ap update_in is)))

pub taken_totals : (here : Setting) (J : List Record) (s : Signed) (t : Totals) → IsLawful here (J ++ Foreign s ∷ []) → AreTaken here.me J s.statement t → AreTotals here.me (J ++ Foreign s ∷ []) t
taken_totals here J s t l a = record {
  own = a.own ∙ ap length (sym (silent own_by J (Foreign s) refl));
  leaves = a.leaves ∙ leaves_after here J s l;
  clock = a.clock ∙ ap greatest_clock (sym (accepted_push J (Foreign s)));
  last = a.last ∙ ap (last_own_behind zeros) (sym (silent own_by J (Foreign s) refl));
}

-- a conviction at the front changes nothing
pub taken_behind : (me : ℕ) (J : List Record) (p : Proof) (s : Statement) (t : Totals) → AreTaken me J s t → AreTaken me (J ++ Conviction p ∷ []) s t
taken_behind me J p s t a =
    let updates : accepted J ≡ accepted (J ++ Conviction p ∷ []) = sym (silent accepted_by J (Conviction p) refl) in
    let owned : own J ≡ own (J ++ Conviction p ∷ []) = sym (silent own_by J (Conviction p) refl) in
    record {
      own = a.own ∙ ap length owned;
      leaves = a.leaves ∙ ap (λ (us : List Update). number_after us (length (foreign_leaves me J)) s) updates ∙ ap (λ (us : List Update). number_after (accepted (J ++ Conviction p ∷ [])) (length us) s) (sym (silent_leaves me J (Conviction p) refl));
      clock = a.clock ∙ ap (λ (us : List Update). greatest_clock (us ++ update_in s)) updates;
      last = a.last ∙ ap (last_own_behind zeros) owned;
    }
