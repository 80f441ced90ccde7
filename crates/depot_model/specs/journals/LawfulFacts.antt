-- That a journal is lawful is a fact with one proof at most, so that a type can keep it.
use Rattle.std.specs.Prelude.{◌≡◌, ℕ, List, Bool, true, false, Option, Some, None, Result, Ok, Err, is_none}
use Rattle.std.specs.Coded.{Coded-set, coded_ℕ, coded_bool, coded_list, ×_prop, Π_prop, →_prop, le_prop}
use Rattle.std.proofs.Common.{refl, sym, ap, ◌∙◌}
use Rattle.std.proofs.Math.Logic.{∥∥₁_elim}
use Rattle.std.proofs.Math.Path.{path_j', ∙_sym}
use Rattle.std.proofs.lemmas.Bool.{both_ways}
use Rattle.depot_base.specs.declared.update.Update.{Update}
use Rattle.depot_base.specs.declared.voucher.Voucher.{Voucher}
use Rattle.depot_base.specs.declared.record.Record.{Record}
use Rattle.depot_base.specs.declared.record.Record.TheVariants.{Birth, OwnPut, OwnVoucher, Foreign, Conviction, Held}
use Rattle.depot_base.specs.declared.check.Check.{Check}
use Rattle.depot_model.specs.declared.taken.Taken.{Taken}
use Rattle.depot_model.specs.declared.taken.Taken.TheVariants.{New, Known}
use Rattle.depot_model.specs.texts.Texts.{id_of_update}
use Rattle.depot_model.specs.checks.Checks.{Setting}
use Rattle.depot_model.specs.checks.Own.{IsFresh}
use Rattle.depot_model.specs.journals.Lawful.{MayPut, MayVouch, MayFollow, IsAllowed, IsLawful}
use Rattle.depot_model.specs.lists.Codes.{coded_bytes, coded_update, coded_record}
use Rattle.depot_model.specs.texts.TextFacts.{IsRecord-prop}

-- ---- answers

-- Where a test tells a value from all others, an equation with this value has one proof at most.
told_apart : {A : Type 0} (test : A → Bool) (a : A) → ((x : A) → test x ≡ true → x ≡ a) → test a ≡ true → (x : A) → IsProp (x ≡ a)
told_apart {A = A} test a from passes x p q =
    sym (back p) ∙ (ap (λ (e : test x ≡ true). from x e ∙ sym start) (Coded-set coded_bool _ _ (ap test p ∙ passes) (ap test q ∙ passes)) ∙ back q)
  where
    start : a ≡ a
    start = from a (ap test refl ∙ passes)

    back : {y : A} (e : y ≡ a) → from y (ap test e ∙ passes) ∙ sym start ≡ e
    back e = path_j' (λ (y : A) (e : y ≡ a). from y (ap test e ∙ passes) ∙ sym start ≡ e) (∙_sym start) e

abbrev is_new : Result Taken Check → Bool
is_new (Ok New) = true
is_new (Ok Known) = false
is_new (Err c) = false

new_from_test : (answer : Result Taken Check) → is_new answer ≡ true → answer ≡ Ok New
new_from_test (Ok New) e = refl
new_from_test (Ok Known) e = absurd (both_ways false refl e)
new_from_test (Err c) e = absurd (both_ways false refl e)

new_prop : (answer : Result Taken Check) → IsProp (answer ≡ Ok New)
new_prop = told_apart is_new (Ok New) new_from_test refl

none_from_test : {X : Type 0} (o : Option X) → is_none o ≡ true → o ≡ None
none_from_test None e = refl
none_from_test (Some x) e = absurd (both_ways false refl e)

none_prop : {X : Type 0} (o : Option X) → IsProp (o ≡ None)
none_prop = told_apart is_none None none_from_test refl

-- ---- in one way at most

IsFresh-prop : (J : List Record) (h : List ℕ) → IsProp (IsFresh J h)
IsFresh-prop J h a b = λ i. record { named = →_prop (λ p q. absurd p) a.named b.named i; new = Coded-set coded_bool _ _ a.new b.new i }

MayPut-prop : (here : Setting) (J : List Record) (u : Update) (values : List (List ℕ)) → IsProp (MayPut here J u values)
MayPut-prop here J u values a b = λ i. record {
  next = Coded-set coded_update _ _ a.next b.next i;
  fresh = IsFresh-prop J (id_of_update u) a.fresh b.fresh i;
  tips = le_prop a.tips b.tips i;
  leaf = le_prop a.leaf b.leaf i;
}

MayVouch-prop : (here : Setting) (J : List Record) (v : Voucher) → IsProp (MayVouch here J v)
MayVouch-prop here J v a b = λ i. record {
  node = Coded-set coded_ℕ _ _ a.node b.node i;
  seq = Coded-set coded_ℕ _ _ a.seq b.seq i;
  leaf = le_prop a.leaf b.leaf i;
  ids = Π_prop (λ h. →_prop (Coded-set coded_bool _ _)) a.ids b.ids i;
}

MayFollow-prop : (here : Setting) (J : List Record) (r : Record) → IsProp (MayFollow here J r)
MayFollow-prop here J (Birth node roster) = ×_prop (Coded-set coded_ℕ _ _) (Coded-set coded_bytes _ _)
MayFollow-prop here J (OwnPut u values) = MayPut-prop here J u values
MayFollow-prop here J (OwnVoucher v) = MayVouch-prop here J v
MayFollow-prop here J (Foreign s) = ×_prop (new_prop _) (Coded-set (coded_list coded_record) _ _)
MayFollow-prop here J (Conviction p) = new_prop _
MayFollow-prop here J (Held value) = new_prop _

IsAllowed-prop : (here : Setting) (J : List Record) (r : Record) → IsProp (IsAllowed here J r)
IsAllowed-prop here J r a b = λ i. record {
  first = Coded-set coded_bool _ _ a.first b.first i;
  text = IsRecord-prop r a.text b.text i;
  may = MayFollow-prop here J r a.may b.may i;
  room = none_prop _ a.room b.room i;
}

-- that a journal is lawful has one proof at most
pub IsLawful-prop : (here : Setting) (J : List Record) → IsProp (IsLawful here J)
IsLawful-prop here J a b = λ i. record { each = λ before r after e. IsAllowed-prop here before r (a.each before r after e) (b.each before r after e) i }

-- that there is a proof that the journal is lawful shows that it is
pub lawful_from_some : (here : Setting) (J : List Record) → ∥ IsLawful here J ∥₁ → IsLawful here J
lawful_from_some here J some = ∥∥₁_elim some (IsLawful-prop here J) (λ l. l)
