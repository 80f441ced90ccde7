-- A journal holds each parent of what it accepted, with a lower clock.
use Rattle.std.proofs.Common.{◌≡◌, ℕ, ◌+◌, ◌<◌, List, [], ◌∷◌, ◌++◌, map, Option, Some, None, refl, sym, ap, subst, ◌∙◌, arith, inl, inr}
use Rattle.std.proofs.lemmas.Bool.{leb-false}
use Rattle.depot_base.specs.declared.update.Update.{Update}
use Rattle.depot_base.specs.declared.update.Dep.{Dep}
use Rattle.depot_base.specs.declared.check.Check.{Check}
use Rattle.depot_base.specs.declared.record.Record.{Record}
use Rattle.depot_base.specs.declared.record.Record.TheVariants.{Birth, OwnPut, OwnVoucher, Foreign, Conviction, Held}
use Rattle.depot_model.specs.lists.Lists.{IsIn}
use Rattle.depot_model.specs.texts.Texts.{id_of_update}
use Rattle.depot_model.specs.updates.Order.{prevs, parents, IsCausal}
use Rattle.depot_model.specs.updates.History.{greatest_clock}
use Rattle.depot_model.specs.journals.Journal.{accepted, accepted_by, named}
use Rattle.depot_model.specs.checks.Checks.{Setting, sight, not_above}
use Rattle.depot_model.specs.journals.Lawful.{MayFollow, IsLawful}
use Rattle.depot_model.proofs.lists.FirstLaws.{each_is_none, when-none}
use Rattle.depot_model.proofs.lists.Members.{in_left, in_right, in_parts, in_map, from_map, all_at}
use Rattle.depot_laws.proofs.lists.Splits.{given_by, flat_left, lawful_before}
use Rattle.depot_model.proofs.of_updates.NamedIds.{named_some}
use Rattle.depot_laws.proofs.records.Taken.{AllNone, HasContent, new_is}
use Rattle.depot_laws.proofs.records.Causes.{content_of_new, update_in_is, record_joins, lawful_is_causal}
use Rattle.depot_laws.proofs.orders.Clocks.{clock_below, next_clock}
use Rattle.depot_laws.proofs.own_updates.Nexts.{next_of}

-- ---- an update whose checks pass

seen_below : (u : Update) (h : List ℕ) (o : Option Update) (t : Update) → o ≡ Some t → not_above u h o ≡ None → t.clock < u.clock
seen_below u h o t is e = leb-false _ _ (when-none _ _ (ap (not_above u h) (sym is) ∙ e))

-- the clocks of its parents are lower
pub content_above : (us : List Update) (u t : Update) → IsCausal [] us → HasContent us u → IsIn t us → IsIn (id_of_update t) (parents u) → t.clock < u.clock
unfolding sight
content_above us u t c content t_on parent =
    let fronts = map (not_above u u.prev) (map (named us) (prevs u)) in
    let pair : Dep → Dep × Option Update = λ d. (d, named us d.id) in
    let low : Dep × Option Update → Option Check = λ e. not_above u e.0.id e.1 in
    let backs = map low (map pair u.deps) in
    let all : AllNone (fronts ++ backs) = each_is_none (fronts ++ backs) content.clock_low in
    let passes : (o : Option Check) → IsIn o (fronts ++ backs) → o ≡ None = λ o on. all_at (λ (o : Option Check). o ≡ None) (fronts ++ backs) o all on in
    elim (in_parts (id_of_update t) (prevs u) (map (λ (d : Dep). d.id) u.deps) parent) [
      | inl prev ↦
          let seen = named us (id_of_update t) in
          seen_below u u.prev seen t (named_some [] us (id_of_update t) t c t_on refl)
          (passes (not_above u u.prev seen) (in_left _ fronts backs (in_map (not_above u u.prev) seen (map (named us) (prevs u)) (in_map (named us) (id_of_update t) (prevs u) prev))))
      | inr entry ↦
          let d = from_map (λ (d : Dep). d.id) (id_of_update t) u.deps entry in
          seen_below u d.0.id (named us d.0.id) t (named_some [] us d.0.id t c t_on (sym d.1.1))
          (passes (low (pair d.0)) (in_right _ fronts backs (in_map low (pair d.0) (map pair u.deps) (in_map pair d.0 u.deps d.1.0))))
    ]

-- ---- what a record accepts

-- an update that a record accepts is above its parents
record_above : (here : Setting) (J : List Record) (r : Record) (u t : Update) → IsLawful here J → MayFollow here J r → IsIn u (accepted_by r) → IsIn t (accepted J) → IsIn (id_of_update t) (parents u) → t.clock < u.clock
record_above here J (OwnPut w value) u t l may (inl same) t_on parent =
    let is : w.clock ≡ greatest_clock (accepted J) + 1 = ap (λ (x : Update). x.clock) (next_of may) ∙ next_clock here.me J w.writes in
    subst (λ (x : Update). t.clock < x.clock) same (omega (arith, is, clock_below t (accepted J) t_on))
record_above here J (OwnPut w value) u t l may (inr never) t_on parent = absurd never
record_above here J (Foreign s) u t l may on t_on parent = content_above (accepted J) u t (lawful_is_causal here J l) (content_of_new here J s u (update_in_is s.statement u on) (new_is here J s may.0)) t_on parent
record_above here J (Birth node h) u t l may never t_on parent = absurd never
record_above here J (OwnVoucher v) u t l may never t_on parent = absurd never
record_above here J (Conviction p) u t l may never t_on parent = absurd never
record_above here J (Held value) u t l may never t_on parent = absurd never

-- one of these has this id, and a lower clock than u
pub record HasLower (us : List Update) (u : Update) (h : List ℕ) : Type 0 where
  pub lower : Update
  pub on : IsIn lower us
  pub id : id_of_update lower ≡ h
  pub clock : lower.clock < u.clock

-- each parent of an accepted update is accepted, with a lower clock
pub parent_is_lower : (here : Setting) (J : List Record) (u : Update) (h : List ℕ) → IsLawful here J → IsIn u (accepted J) → IsIn h (parents u) → HasLower (accepted J) u h
parent_is_lower here J u h l on parent =
    let g = given_by accepted_by u J on in
    let may = (l.each g.before g.by g.after g.is).may in
    let t = (record_joins here g.before g.by u may g.given).there h parent in
    record {
      lower = t.update;
      on = subst (λ (K : List Record). IsIn t.update (accepted K)) (sym g.is) (flat_left accepted_by t.update g.before (g.by ∷ g.after) t.on);
      id = t.id;
      clock = record_above here g.before g.by u t.update (lawful_before here J g.before g.by g.after l g.is) may g.given t.on (subst (λ (k : List ℕ). IsIn k (parents u)) (sym t.id) parent);
    }
