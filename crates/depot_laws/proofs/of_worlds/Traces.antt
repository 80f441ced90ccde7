-- What is observed before a read or a write is in each journal that has it, and is or precedes it there.
use Rattle.std.proofs.Common.{◌≡◌, ℕ, List, ◌∷◌, ◌++◌, take, Some, refl, sym, ap, subst, ◌∙◌, inl, inr, ◌⊎◌, slice_get}
use Rattle.depot_base.specs.declared.update.Update.{Update}
use Rattle.depot_base.specs.declared.record.Record.{Record}
use Rattle.depot_model.specs.lists.Lists.{IsIn}
use Rattle.depot_model.specs.texts.Texts.{id_of_update}
use Rattle.depot_model.specs.updates.Order.{IsParent, Precedes, parents}
use Rattle.depot_model.specs.journals.Journal.{accepted}
use Rattle.depot_model.specs.checks.Checks.{Setting}
use Rattle.depot_model.specs.journals.Lawful.{IsLawful}
use Rattle.depot_model.proofs.of_updates.Orders.{leads_trans, parent_precedes}
use Rattle.depot_model.specs.worlds.World.{Read, Correct, World, setting_of, IsWorld, writes_of}
use Rattle.depot_model.specs.worlds.Causality.{Operation, write, read_at, Edge, ObservedBefore, ObservesAll}
use Rattle.depot_laws.specs.OneText.{HaveOneText}
use Rattle.depot_laws.proofs.orders.Follows.{put_follows}
use Rattle.depot_laws.proofs.own_updates.Puts.{one_put}
use Rattle.depot_laws.proofs.orders.ParentClocks.{parent_is_lower}
use Rattle.depot_laws.proofs.orders.Paths.{back_along, leads_sent}
use Rattle.depot_laws.proofs.of_worlds.Worlds.{write_from, journal_lawful, one_write}
use Rattle.depot_laws.proofs.of_worlds.Observed.{reads_grow, put_behind, strict}

-- t is one of the updates, and is u or precedes it among them
pub record IsUpTo (us : List Update) (t u : Update) : Type 0 where
  pub on : IsIn t us
  pub before : (t ≡ u) ⊎ Precedes us t u

up_trans : (us : List Update) (s t u : Update) → IsUpTo us s t → IsUpTo us t u → IsUpTo us s u
up_trans us s t u p q = record {
  on = p.on;
  before = elim p.before [
    | inl same ↦ subst (λ (x : Update). (x ≡ u) ⊎ Precedes us x u) (sym same) q.before
    | inr before ↦ elim q.before [
      | inl same ↦ inr (subst (λ (x : Update). Precedes us s x) same before)
      | inr behind ↦ inr (leads_trans (IsParent us) s t u before behind)
    ]
  ];
}

-- the writes that an operation reports: a write of itself, a read of all that its journal had accepted
abbrev Tells : Operation → Update → Type 0
Tells (write u) t = u ≡ t
Tells (read_at c place r) t = IsIn t (accepted (take r.at c.journal))

-- the operation reports a write that t is or precedes, wherever that one is among these
record LeadsTo (us : List Update) (t : Update) (a : Operation) : Type 0 where
  pub update : Update
  pub told : Tells a update
  pub up : IsIn update us → IsUpTo us t update

leads_itself : (us : List Update) (a : Operation) (t : Update) → Tells a t → LeadsTo us t a
leads_itself us a t told = record { update = t; told = told; up = λ on. record { on = on; before = inl refl } }

module _ (W : World) (world : IsWorld W) where
  -- a path among writes is observed
  pub path_is_observed : (among : List Update) → ((x : Update) → IsIn x among → IsIn x (writes_of W)) → (t u : Update) → Precedes among t u → ObservedBefore W (write t) (write u)
  path_is_observed among each t u before = leads_sent (λ (x : Update). write x) (IsParent among) (Edge W) (λ x y s. record { above = each x s.above; below = each y s.below; step = s.named }) t u before

  -- what a node accepted is observed before what it then writes
  pub writes_follow : (c : Correct) → IsIn c W.nodes → ObservesAll W c
  writes_follow c c_on before r after is t u t_on u_on =
      let p = one_put u r u_on in
      path_is_observed (accepted c.journal) (λ x on. write_from W c x c_on on) t u
      (put_follows (setting_of W c) c.journal u t (journal_lawful W world c c_on)
      (record { before = before; values = p.values; after = after; is = is ∙ ap (λ (x : Record). before ++ x ∷ after) p.is }) t_on)

  module _ (free : HaveOneText W) (here : Setting) (J : List Record) (lawful : IsLawful here J) (each : (x : Update) → IsIn x (accepted J) → IsIn x (writes_of W)) where
    -- the journal has each write that is a parent of one that it has
    closed : (t u : Update) → IsIn t (writes_of W) → IsIn u (accepted J) → IsIn (id_of_update t) (parents u) → IsIn t (accepted J)
    closed t u t_on u_on parent =
        let low = parent_is_lower here J u (id_of_update t) lawful u_on parent in
        subst (λ (x : Update). IsIn x (accepted J)) (one_write W world free low.lower t (each low.lower low.on) t_on low.id) low.on

    parent_up : (t u : Update) → IsIn t (writes_of W) → IsIn (id_of_update t) (parents u) → IsIn u (accepted J) → IsUpTo (accepted J) t u
    parent_up t u t_on parent u_on = let on = closed t u t_on u_on parent in record { on = on; before = inr (parent_precedes (accepted J) t u on u_on parent) }

    pub path_up : (among : List Update) → ((x : Update) → IsIn x among → IsIn x (writes_of W)) → (t u : Update) → Precedes among t u → IsIn u (accepted J) → IsUpTo (accepted J) t u
    path_up among known t u before u_on = back_along (IsParent among) (λ (x : Update). IsUpTo (accepted J) x u) u
        (λ x s. parent_up x u (known x s.above) s.named u_on)
        (λ x y s up. up_trans (accepted J) x y u (parent_up x y (known x s.above) s.named up.on) up) t before

    -- an observation leads on to what the later operation says of
    leads_step : (a b : Operation) → Edge W a b → (t : Update) → Tells a t → LeadsTo (accepted J) t b
    leads_step (write x) (write u) o t told = record { update = u; told = refl; up = λ on. subst (λ (y : Update). IsUpTo (accepted J) y u) told (parent_up x u o.above o.step on) }
    leads_step (write x) (read_at c place r) o t told = leads_itself (accepted J) (read_at c place r) t (subst (λ (y : Update). IsIn y (accepted (take r.at c.journal))) told o.step)
    leads_step (read_at c i r) (read_at d j s) o t told =
        let s_at : slice_get c.reads j ≡ Some s = subst (λ (x : Correct). slice_get x.reads j ≡ Some s) (sym o.step.0) o.below.1 in
        leads_itself (accepted J) (read_at d j s) t (subst (λ (x : Correct). IsIn t (accepted (take s.at x.journal))) o.step.0 (reads_grow W world c i j r s o.above.0 o.above.1 s_at o.step.1 t told))
    leads_step (read_at c place r) (write u) o t told =
        let p = put_behind u r.at c.journal o.step in
        record {
          update = u;
          told = refl;
          up = λ on. path_up (accepted c.journal) (λ x x_on. write_from W c x o.above.0 x_on) t u (put_follows (setting_of W c) c.journal u t (journal_lawful W world c o.above.0) p.put (p.earlier t told)) on;
        }

    leads_far : (a b : Operation) → ObservedBefore W a b → (t : Update) → Tells a t → LeadsTo (accepted J) t b
    leads_far a b o = back_along (Edge W) (λ (x : Operation). (t : Update) → Tells x t → LeadsTo (accepted J) t b) b (λ x s. leads_step x b s)
        (λ x y s far t told.
        let one = leads_step x y s t told in
        let more = far one.update one.told in
        record { update = more.update; told = more.told; up = λ on. let up = more.up on in up_trans (accepted J) t one.update more.update (one.up up.on) up }) a o

    -- a write that is observed before a read whose journal had no more than this one is in this one
    pub seen_is_accepted : (u : Update) (c : Correct) (place : ℕ) (r : Read) → ((t : Update) → IsIn t (accepted (take r.at c.journal)) → IsIn t (accepted J)) → ObservedBefore W (write u) (read_at c place r) → IsIn u (accepted J)
    seen_is_accepted u c place r more o = let far = leads_far (write u) (read_at c place r) o u refl in (far.up (more far.update far.told)).on

    -- a write that is observed before one of the journal precedes it there
    pub seen_precedes : (t u : Update) → IsIn u (accepted J) → ObservedBefore W (write t) (write u) → Precedes (accepted J) t u
    seen_precedes t u u_on o =
        let far = leads_far (write t) (write u) o t refl in
        let up = far.up (subst (λ (x : Update). IsIn x (accepted J)) far.told u_on) in
        subst (λ (x : Update). Precedes (accepted J) t x) (sym far.told) (elim up.before [
          | inl same ↦ absurd ((strict W world free).never (write u) (subst (λ (x : Update). ObservedBefore W (write x) (write u)) (same ∙ sym far.told) o))
          | inr before ↦ before
        ])
