-- What a candidate of the sender is, and what the values after it are.
use Rattle.std.proofs.Common.{◌≡◌, ℕ, ◌≤◌, List, [], ◌∷◌, ◌++◌, length, Bool, true, false, cond, Option, Some, None, refl, sym, ap, subst, ◌∙◌, inl, inr, ◌⊎◌, arith}
use Rattle.sha2.specs.Sha256.{sha256}
use Rattle.depot_base.specs.Format.{number, bytes_of, inner}
use Rattle.depot_base.specs.declared.update.Update.{Update}
use Rattle.depot_base.specs.declared.statement.Statement.{Statement}
use Rattle.depot_base.specs.declared.statement.Statement.TheVariants as statement
use Rattle.depot_base.specs.declared.statement.Signed.{Signed}
use Rattle.depot_base.specs.declared.record.Record.{Record}
use Rattle.depot_base.specs.declared.record.Record.TheVariants.{Birth, OwnPut, OwnVoucher, Foreign, Conviction, Held}
use Rattle.depot_model.specs.lists.Lists.{IsIn, is_among}
use Rattle.depot_model.specs.texts.Texts.{signed, IsStatement, IsSigned}
use Rattle.depot_model.specs.journals.Journal.{accepted, accepted_by, own, own_by, foreign, foreign_by, update_in, held_as}
use Rattle.depot_model.specs.checks.Checks.{Setting, sight, content_checks, content_of}
use Rattle.depot_model.specs.journals.Lawful.{IsLawful}
use Rattle.depot_model.specs.texts.Contents.{NamedValue}
use Rattle.depot_model.specs.exchange.Bundle.{Signs, signed_with, signed_by, values_behind}
use Rattle.depot_model.proofs.lists.FirstLaws.{each_is_none}
use Rattle.depot_model.proofs.lists.Members.{in_right, among_to}
use Rattle.depot_model.proofs.of_texts.TextLaws.{statement_lawful}
use Rattle.depot_laws.proofs.lists.Splits.{flat_gives, flat_left, lawful_before}
use Rattle.depot_laws.proofs.records.Taken.{AllNone, new_is}
use Rattle.depot_laws.proofs.records.Causes.{Joins, record_joins, update_in_is}
use Rattle.depot_laws.proofs.own_updates.OwnContent.{own_passes}
use Rattle.depot_laws.proofs.records.HeldValues.{held_as_is}
use Rattle.depot_laws.proofs.own_updates.Nexts.{next_of}

-- ---- an own statement, signed

pub signed_is : (sign : Signs) (s : Statement) → (signed_with sign s).statement ≡ s
unfolding signed_with
signed_is sign s = refl

-- it has a text, where the signature isn't too long
pub signed_fits : (sign : Signs) (s : Statement) → IsStatement s → length (signed_with sign s).signature ≤ 8192 → IsSigned (signed_with sign s)
unfolding signed_with signed number inner bytes_of
signed_fits sign s fits short =
    let body = statement_lawful.short s fits in
    ((omega arith, body), (((fits, refl), refl), ((omega arith, short), (refl, refl))))

-- ---- a candidate

-- where its statement comes from: the sender itself, signed now, or another
abbrev pub IsSource : Signs → List Record → Update → Signed → Type 0
IsSource sign J u s = (IsIn (statement.Update u) (own J) × (s ≡ signed_with sign (statement.Update u))) ⊎ IsIn s (foreign J)

-- The record accepts the update and is sent as one signed statement. After the records before it the update's parents
-- are there, and the checks of its content pass.
pub record IsTold (here : Setting) (sign : Signs) (J : List Record) (r : Record) (u : Update) : Type 0 where
  pub told : Signed
  pub accepts : accepted_by r ≡ u ∷ []
  pub tells : signed_by sign r ≡ told ∷ []
  pub is : told.statement ≡ statement.Update u
  pub source : IsSource sign J u told
  pub before : List Record
  pub lawful : IsLawful here before
  pub within : (t : Update) → IsIn t (accepted before) → IsIn t (accepted J)
  pub joins : Joins (accepted before) u
  pub content : AllNone (content_checks u (sight (accepted before) u))

told_put : (here : Setting) (sign : Signs) (J before : List Record) (u : Update) (values : List (List ℕ)) (after : List Record) → IsLawful here J → J ≡ before ++ OwnPut u values ∷ after → IsTold here sign J (OwnPut u values) u
told_put here sign J before u values after l is =
    let may = (l.each before (OwnPut u values) after is).may in
    let front = lawful_before here J before (OwnPut u values) after l is in
    record {
      told = signed_with sign (statement.Update u);
      accepts = refl;
      tells = refl;
      is = signed_is sign (statement.Update u);
      source = inl (flat_gives own_by (statement.Update u) (OwnPut u values) J (subst (λ (K : List Record). IsIn (OwnPut u values) K) (sym is) (in_right (OwnPut u values) before (OwnPut u values ∷ after) (inl refl))) (inl refl), refl);
      before = before;
      lawful = front;
      within = λ t on. subst (λ (K : List Record). IsIn t (accepted K)) (sym is) (flat_left accepted_by t before (OwnPut u values ∷ after) on);
      joins = record_joins here before (OwnPut u values) u may (inl refl);
      content = each_is_none (content_checks u (sight (accepted before) u)) (own_passes here before u front (next_of may) may.fresh);
    }

told_foreign : (here : Setting) (sign : Signs) (J before : List Record) (s : Signed) (u : Update) (after : List Record) → IsLawful here J → J ≡ before ++ Foreign s ∷ after → s.statement ≡ statement.Update u → IsTold here sign J (Foreign s) u
told_foreign here sign J before s u after l split is =
    let may = (l.each before (Foreign s) after split).may in
    let accepts : update_in s.statement ≡ u ∷ [] = ap update_in is in
    record {
      told = s;
      accepts = accepts;
      tells = refl;
      is = is;
      source = inr (flat_gives foreign_by s (Foreign s) J (subst (λ (K : List Record). IsIn (Foreign s) K) (sym split) (in_right (Foreign s) before (Foreign s ∷ after) (inl refl))) (inl refl));
      before = before;
      lawful = lawful_before here J before (Foreign s) after l split;
      within = λ t on. subst (λ (K : List Record). IsIn t (accepted K)) (sym split) (flat_left accepted_by t before (Foreign s ∷ after) on);
      joins = record_joins here before (Foreign s) u may (subst (λ (us : List Update). IsIn u us) (sym accepts) (inl refl));
      content = subst (λ (x : Statement). AllNone (content_of before x)) is (new_is here before s may.0).passes.content;
    }

-- a record that accepts an update reports it
pub told_of : (here : Setting) (sign : Signs) (J before : List Record) (r : Record) (u : Update) (after : List Record) → IsLawful here J → J ≡ before ++ r ∷ after → IsIn u (accepted_by r) → IsTold here sign J r u
told_of here sign J before (OwnPut w values) u after l is (inl same) = subst (λ (x : Update). IsTold here sign J (OwnPut w values) x) same (told_put here sign J before w values after l is)
told_of here sign J before (OwnPut w values) u after l is (inr never) = absurd never
told_of here sign J before (Foreign s) u after l is on = told_foreign here sign J before s u after l is (update_in_is s.statement u on)
told_of here sign J before (Birth node h) u after l is never = absurd never
told_of here sign J before (OwnVoucher v) u after l is never = absurd never
told_of here sign J before (Conviction p) u after l is never = absurd never
told_of here sign J before (Held value) u after l is never = absurd never

-- ---- the values after it

-- a value after a candidate is held, as one of the names
pub record IsBehind (J : List Record) (ns : List NamedValue) (x : List ℕ) : Type 0 where
  pub name : NamedValue
  pub on : IsIn name ns
  pub held : held_as J name ≡ Some x

behind_more : (J : List Record) (n : NamedValue) (ns : List NamedValue) (x : List ℕ) → IsBehind J ns x → IsBehind J (n ∷ ns) x
behind_more J n ns x b = record { name = b.name; on = inr b.on; held = b.held }

behind_step : (J : List Record) (n : NamedValue) (ns : List NamedValue) (x : List ℕ) (blocked : Bool) (o : Option (List ℕ)) (one two : List (List ℕ)) → held_as J n ≡ o → (IsIn x one → IsBehind J ns x) → (IsIn x two → IsBehind J ns x)
    → IsIn x (elim (cond blocked None o) as (λ p. List (List ℕ)) [ None ↦ one | Some y ↦ y ∷ two ]) → IsBehind J (n ∷ ns) x
behind_step J n ns x true o one two is p q on = behind_more J n ns x (p on)
behind_step J n ns x false None one two is p q on = behind_more J n ns x (p on)
behind_step J n ns x false (Some y) one two is p q (inl same) = record { name = n; on = inl refl; held = is ∙ ap (λ (z : List ℕ). Some z) same }
behind_step J n ns x false (Some y) one two is p q (inr there) = behind_more J n ns x (q there)

pub behind_is : (J : List Record) (sent : List (List ℕ)) (ns : List NamedValue) (x : List ℕ) → IsIn x (values_behind J sent ns) → IsBehind J ns x
unfolding values_behind
behind_is J sent [] x never = absurd never
behind_is J sent (n ∷ ns) x on = behind_step J n ns x (is_among n.hash sent) (held_as J n) (values_behind J sent ns) (values_behind J (n.hash ∷ sent) ns) refl (behind_is J sent ns x) (behind_is J (n.hash ∷ sent) ns x) on

-- a value of this hash is one of these
pub record HasValue (xs : List (List ℕ)) (h : List ℕ) : Type 0 where
  pub value : List ℕ
  pub on : IsIn value xs
  pub hash : sha256 value ≡ h

value_behind : (x h : List ℕ) (xs : List (List ℕ)) → HasValue xs h → HasValue (x ∷ xs) h
value_behind x h xs v = record { value = v.value; on = inr v.on; hash = v.hash }

-- sent before, or after this candidate
abbrev IsThere : List (List ℕ) → List (List ℕ) → List ℕ → Type 0
IsThere sent xs h = IsIn h sent ⊎ HasValue xs h

itself_there : (J : List Record) (sent : List (List ℕ)) (n : NamedValue) (x : List ℕ) (blocked : Bool) (o : Option (List ℕ)) (one two : List (List ℕ)) → is_among n.hash sent ≡ blocked → held_as J n ≡ o → held_as J n ≡ Some x
    → IsThere sent (elim (cond blocked None o) as (λ p. List (List ℕ)) [ None ↦ one | Some y ↦ y ∷ two ]) n.hash
itself_there J sent n x true o one two among is held = inl (among_to n.hash sent among)
itself_there J sent n x false None one two among is held = absurd (let clash : None ≡ Some x = sym is ∙ held in cc)
itself_there J sent n x false (Some y) one two among is held = inr (record { value = y; on = inl refl; hash = (held_as_is J n y is).hash })

later_there : (J : List Record) (sent : List (List ℕ)) (n : NamedValue) (h : List ℕ) (blocked : Bool) (o : Option (List ℕ)) (one two : List (List ℕ)) → held_as J n ≡ o → IsThere sent one h → IsThere (n.hash ∷ sent) two h
    → IsThere sent (elim (cond blocked None o) as (λ p. List (List ℕ)) [ None ↦ one | Some y ↦ y ∷ two ]) h
later_there J sent n h true o one two is p q = p
later_there J sent n h false None one two is p q = p
later_there J sent n h false (Some y) one two is p (inl (inl same)) = inr (record { value = y; on = inl refl; hash = (held_as_is J n y is).hash ∙ same })
later_there J sent n h false (Some y) one two is p (inl (inr old)) = inl old
later_there J sent n h false (Some y) one two is p (inr v) = inr (value_behind y h two v)

-- a value that is held as one of the names was sent before, or follows the candidate
pub behind_has : (J : List Record) (sent : List (List ℕ)) (ns : List NamedValue) (n : NamedValue) (x : List ℕ) → IsIn n ns → held_as J n ≡ Some x → IsIn n.hash sent ⊎ HasValue (values_behind J sent ns) n.hash
unfolding values_behind
behind_has J sent [] n x never held = absurd never
behind_has J sent (k ∷ ns) n x (inl same) held =
    subst (λ (j : NamedValue). IsThere sent (elim (cond (is_among k.hash sent) None (held_as J k)) as (λ p. List (List ℕ)) [ None ↦ values_behind J sent ns | Some y ↦ y ∷ values_behind J (k.hash ∷ sent) ns ]) j.hash) same
    (itself_there J sent k x (is_among k.hash sent) (held_as J k) (values_behind J sent ns) (values_behind J (k.hash ∷ sent) ns) refl refl (subst (λ (j : NamedValue). held_as J j ≡ Some x) (sym same) held))
behind_has J sent (k ∷ ns) n x (inr there) held =
    later_there J sent k n.hash (is_among k.hash sent) (held_as J k) (values_behind J sent ns) (values_behind J (k.hash ∷ sent) ns) refl (behind_has J sent ns n x there held) (behind_has J (k.hash ∷ sent) ns n x there held)
