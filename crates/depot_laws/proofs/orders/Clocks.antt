-- Clocks stay small, so that the next own clock has a text.
use Rattle.std.proofs.Common.{◌≡◌, ℕ, ◌+◌, ◌*◌, ◌≤◌, List, [], ◌∷◌, ◌++◌, map, length, Option, Some, None, refl, ap, subst, ◌∙◌, arith, length-append, inl, inr}
use Rattle.std.proofs.lemmas.Bool.{ltb-false}
use Rattle.depot_base.specs.declared.update.Update.{Update}
use Rattle.depot_base.specs.declared.update.Dep.{Dep}
use Rattle.depot_base.specs.declared.record.Record.{Record}
use Rattle.depot_base.specs.declared.record.Record.TheVariants.{Birth, OwnPut, OwnVoucher, Foreign, Conviction, Held}
use Rattle.depot_model.specs.lists.Lists.{IsIn}
use Rattle.depot_model.specs.updates.Order.{prevs}
use Rattle.depot_model.specs.updates.History.{greatest_clock}
use Rattle.depot_model.specs.journals.Journal.{accepted, accepted_by, named}
use Rattle.depot_model.specs.checks.Own.{next_with}
use Rattle.depot_model.specs.checks.Checks.{Setting, sight, clock_of, greatest_of}
use Rattle.depot_model.specs.journals.Lawful.{MayFollow, IsAllowed, IsLawful}
use Rattle.depot_model.proofs.lists.FirstLaws.{when-none}
use Rattle.depot_model.proofs.lists.Members.{in_parts, from_map}
use Rattle.depot_laws.proofs.lists.Splits.{flat_cases, lawful_from_end}
use Rattle.depot_model.proofs.of_updates.NamedIds.{named_is}
use Rattle.depot_laws.proofs.records.Taken.{HasContent, new_is}
use Rattle.depot_laws.proofs.records.Causes.{update_in_is, content_of_new}
use Rattle.depot_laws.proofs.own_updates.Nexts.{next_of}
use Rattle.depot_base.specs.declared.write.Write.{Write}

-- ---- the greatest of some clocks

-- no clock is above the greatest
pub clock_below : (t : Update) (us : List Update) → IsIn t us → t.clock ≤ greatest_clock us
clock_below t [] never = absurd never
clock_below t (u ∷ us) (inl here) = let e : u.clock ≡ t.clock = ap (λ (x : Update). x.clock) here in omega arith
clock_below t (u ∷ us) (inr there) = let h = clock_below t us there in omega arith

-- and the greatest is the least such number
pub greatest_within : (us : List Update) (n : ℕ) → ((t : Update) → IsIn t us → t.clock ≤ n) → greatest_clock us ≤ n
greatest_within [] n each = omega arith
greatest_within (u ∷ us) n each =
    let one = each u (inl refl) in
    let more = greatest_within us n (λ t on. each t (inr on)) in
    omega arith

greatest_of_within : (os : List (Option Update)) (n : ℕ) → ((o : Option Update) → IsIn o os → clock_of o ≤ n) → greatest_of os ≤ n
greatest_of_within [] n each = omega arith
greatest_of_within (o ∷ os) n each =
    let one = each o (inl refl) in
    let more = greatest_of_within os n (λ x on. each x (inr on)) in
    omega arith

named_clock : (us : List Update) (h : List ℕ) (o : Option Update) → named us h ≡ o → clock_of o ≤ greatest_clock us
named_clock us h None e = omega arith
named_clock us h (Some t) e = clock_below t us (named_is us h t e).0

sight_clock : (us : List Update) (h : List ℕ) → clock_of (named us h) ≤ greatest_clock us
sight_clock us h = named_clock us h (named us h) refl

-- ---- one record more

-- the clock of an update whose checks pass isn't far above
pub content_clock : (us : List Update) (u : Update) → HasContent us u → u.clock ≤ greatest_clock us + 65536
unfolding sight
content_clock us u c =
    let fronts = map (named us) (prevs u) in
    let pair : Dep → Dep × Option Update = λ d. (d, named us d.id) in
    let pairs : List (Dep × Option Update) = map pair u.deps in
    let backs = map (λ (e : Dep × Option Update). e.1) pairs in
    let near : u.clock ≤ greatest_of (fronts ++ backs) + 65536 = ltb-false _ _ (when-none _ _ c.clock_far) in
    let below : greatest_of (fronts ++ backs) ≤ greatest_clock us = greatest_of_within (fronts ++ backs) (greatest_clock us) (λ o on. elim (in_parts o fronts backs on) [
      | inl prev ↦ let h = from_map (named us) o (prevs u) prev in subst (λ (x : Option Update). clock_of x ≤ greatest_clock us) h.1.1 (sight_clock us h.0)
      | inr entry ↦
          let e = from_map (λ (e : Dep × Option Update). e.1) o pairs entry in
          let d = from_map pair e.0 u.deps e.1.0 in
          let is : named us d.0.id ≡ o = ap (λ (p : Dep × Option Update). p.1) d.1.1 ∙ e.1.1 in
          subst (λ (x : Option Update). clock_of x ≤ greatest_clock us) is (sight_clock us d.0.id)
    ]) in
    omega (arith, near, below)

pub next_clock : (me : ℕ) (J : List Record) (ws : List Write) → (next_with me J ws).clock ≡ greatest_clock (accepted J) + 1
next_clock me J ws = refl

near : (here : Setting) (J : List Record) (r : Record) (u : Update) → MayFollow here J r → IsIn u (accepted_by r) → u.clock ≤ greatest_clock (accepted J) + 65536
near here J (Birth node h) u may never = absurd never
near here J (OwnPut w value) u may (inl same) =
    let is : w.clock ≡ greatest_clock (accepted J) + 1 = ap (λ (x : Update). x.clock) (next_of may) ∙ next_clock here.me J w.writes in
    subst (λ (x : Update). x.clock ≤ greatest_clock (accepted J) + 65536) same (omega (arith, is))
near here J (OwnPut w value) u may (inr never) = absurd never
near here J (OwnVoucher v) u may never = absurd never
near here J (Foreign s) u may on = content_clock (accepted J) u (content_of_new here J s u (update_in_is s.statement u on) (new_is here J s may.0))
near here J (Conviction p) u may never = absurd never
near here J (Held value) u may never = absurd never

one_more : (here : Setting) (J : List Record) (r : Record) → IsLawful here J → IsAllowed here J r → greatest_clock (accepted J) ≤ 65536 * length J → greatest_clock (accepted (J ++ r ∷ [])) ≤ 65536 * length (J ++ r ∷ [])
one_more here J r l allowed before =
    let n = length-append J (r ∷ []) in
    greatest_within (accepted (J ++ r ∷ [])) (65536 * length (J ++ r ∷ [])) (λ t on. elim (flat_cases accepted_by t J r on) [
      | inl old ↦ let g = clock_below t (accepted J) old in omega arith
      | inr now ↦ let g = near here J r t allowed.may now in omega arith
    ])

-- a clock is at most 65,536 for each record
pub clocks_within : (here : Setting) (J : List Record) → IsLawful here J → greatest_clock (accepted J) ≤ 65536 * length J
clocks_within here J l = lawful_from_end here (λ (x : List Record). greatest_clock (accepted x) ≤ 65536 * length x) (omega arith) (one_more here) J l
