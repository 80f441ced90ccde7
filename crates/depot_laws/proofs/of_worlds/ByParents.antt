-- Observation among writes is the path of parents, whether hashes collide or not; and a read is observed before itself only if a write is.
use Rattle.std.proofs.Common.{◌≡◌, ℕ, ◌<◌, take, Some, refl, sym, subst, ◌∙◌, inl, inr, ◌⊎◌, arith, slice_get}
use Rattle.depot_base.specs.declared.update.Update.{Update}
use Rattle.depot_model.specs.lists.Lists.{IsIn}
use Rattle.depot_model.specs.updates.Order.{IsParent, Precedes}
use Rattle.depot_model.specs.journals.Journal.{accepted, accepted_by}
use Rattle.depot_model.specs.worlds.World.{Read, Correct, World, setting_of, IsWorld, writes_of}
use Rattle.depot_model.specs.worlds.Causality.{Operation, write, read_at, IsOperation, Edge, ObservedBefore}
use Rattle.depot_model.proofs.of_updates.Orders.{leads_one, leads_more, leads_trans, precedes_wider}
use Rattle.depot_laws.specs.ToReads.{IsUpToRead}
use Rattle.depot_laws.proofs.orders.Follows.{put_follows}
use Rattle.depot_laws.proofs.orders.Paths.{back_along}
use Rattle.depot_laws.proofs.of_worlds.Worlds.{taken_in, write_from, journal_lawful}
use Rattle.depot_laws.proofs.of_worlds.Observed.{reads_grow, put_behind}
use Rattle.depot_laws.proofs.of_worlds.Traces.{path_is_observed}

-- the writes that an operation reports: a write of itself, a read of all that its journal had accepted
abbrev Tells : Operation → Update → Type 0
Tells (write u) t = u ≡ t
Tells (read_at c place r) t = IsIn t (accepted (take r.at c.journal))

-- t precedes a write by parents, or is or precedes one that a read reports
abbrev IsUp : World → Update → Operation → Type 0
IsUp W t (write u) = Precedes (writes_of W) t u
IsUp W t (read_at c place r) = IsUpToRead W t c r

up_more : (W : World) (t u : Update) (b : Operation) → Precedes (writes_of W) t u → IsUp W u b → IsUp W t b
up_more W t u (write w) before up = leads_trans (IsParent (writes_of W)) t u w before up
up_more W t u (read_at c place r) before up = record {
  update = up.update;
  told = up.told;
  up = elim up.up [
    | inl same ↦ inr (subst (λ (x : Update). Precedes (writes_of W) t x) same before)
    | inr more ↦ inr (leads_trans (IsParent (writes_of W)) t u up.update before more)
  ];
}

module _ (W : World) (world : IsWorld W) where
  up_step : (a b : Operation) → Edge W a b → (t : Update) → Tells a t → IsUp W t b
  up_step (write x) (write u) o t told = leads_one (IsParent (writes_of W)) t u (subst (λ (y : Update). IsParent (writes_of W) y u) told (record { above = o.above; below = o.below; named = o.step }))
  up_step (write x) (read_at c place r) o t told = record { update = t; told = subst (λ (y : Update). IsIn y (accepted (take r.at c.journal))) told o.step; up = inl refl }
  up_step (read_at c i r) (read_at d j s) o t told =
      let s_at : slice_get c.reads j ≡ Some s = subst (λ (x : Correct). slice_get x.reads j ≡ Some s) (sym o.step.0) o.below.1 in
      record { update = t; told = subst (λ (x : Correct). IsIn t (accepted (take s.at x.journal))) o.step.0 (reads_grow W world c i j r s o.above.0 o.above.1 s_at o.step.1 t told); up = inl refl }
  up_step (read_at c place r) (write u) o t told =
      let p = put_behind u r.at c.journal o.step in
      precedes_wider (accepted c.journal) (writes_of W) (λ x x_on. write_from W c x o.above.0 x_on) t u (put_follows (setting_of W c) c.journal u t (journal_lawful W world c o.above.0) p.put (p.earlier t told))

  up_join : (t : Update) (y b : Operation) → IsUp W t y → ((s : Update) → Tells y s → IsUp W s b) → IsUp W t b
  up_join t (write u) b up far = up_more W t u b up (far u refl)
  up_join t (read_at c place r) b up far = elim up.up [
    | inl same ↦ subst (λ (x : Update). IsUp W x b) (sym same) (far up.update up.told)
    | inr before ↦ up_more W t up.update b before (far up.update up.told)
  ]

  up_far : (a b : Operation) → ObservedBefore W a b → (t : Update) → Tells a t → IsUp W t b
  up_far a b o = back_along (Edge W) (λ (x : Operation). (t : Update) → Tells x t → IsUp W t b) b (λ x s. up_step x b s)
      (λ x y s far t told. up_join t y b (up_step x y s t told) far) a o

  -- a write is observed before another where a path of parents leads to it
  pub writes_to : (t u : Update) → ObservedBefore W (write t) (write u) → Precedes (writes_of W) t u
  writes_to t u o = up_far (write t) (write u) o t refl

  pub writes_from : (t u : Update) → Precedes (writes_of W) t u → ObservedBefore W (write t) (write u)
  writes_from t u before = path_is_observed W world (writes_of W) (λ x on. on) t u before

  -- and before a read where it is, or so precedes, one that the read's records accepted
  pub read_to : (t : Update) (c : Correct) (place : ℕ) (r : Read) → ObservedBefore W (write t) (read_at c place r) → IsUpToRead W t c r
  read_to t c place r o = up_far (write t) (read_at c place r) o t refl

  pub read_from : (t : Update) (c : Correct) (place : ℕ) (r : Read) → IsOperation W (read_at c place r) → IsUpToRead W t c r → ObservedBefore W (write t) (read_at c place r)
  read_from t c place r r_on up =
      let u_on = write_from W c up.update r_on.0 (taken_in accepted_by up.update r.at c.journal up.told) in
      let last : ObservedBefore W (write up.update) (read_at c place r) = leads_one (Edge W) (write up.update) (read_at c place r) (record { above = u_on; below = r_on; step = up.told }) in
      elim up.up [
        | inl same ↦ subst (λ (x : Update). ObservedBefore W (write x) (read_at c place r)) (sym same) last
        | inr before ↦ leads_trans (Edge W) (write t) (write up.update) (read_at c place r) (writes_from t up.update before) last
      ]

-- ---- circles

-- the operation is a read of the same node at an earlier place
abbrev IsReadBelow : Operation → Correct → ℕ → Type 0
IsReadBelow (write u) d j = ⊥
IsReadBelow (read_at c i r) d j = (c ≡ d) × (i < j)

-- the path goes over a write
record GoesByWrite (W : World) (a b : Operation) : Type 0 where
  pub update : Update
  pub to : (a ≡ write update) ⊎ ObservedBefore W a (write update)
  pub from : ObservedBefore W (write update) b

module _ (W : World) (d : Correct) (j : ℕ) (s : Read) where
  -- a step to a read comes from a write, or from an earlier read of its node
  way_last : (a : Operation) → Edge W a (read_at d j s) → IsReadBelow a d j ⊎ GoesByWrite W a (read_at d j s)
  way_last (write t) o = inr (record { update = t; to = inl refl; from = leads_one (Edge W) (write t) (read_at d j s) o })
  way_last (read_at c i r) o = inl o.step

  way_more : (a y : Operation) → Edge W a y → ObservedBefore W y (read_at d j s) → IsReadBelow y d j ⊎ GoesByWrite W y (read_at d j s) → IsReadBelow a d j ⊎ GoesByWrite W a (read_at d j s)
  way_more (write t) y o rest way = inr (record { update = t; to = inl refl; from = leads_more (Edge W) (write t) y (read_at d j s) o rest })
  way_more (read_at c i r) (write u) o rest way = inr (record { update = u; to = inr (leads_one (Edge W) (read_at c i r) (write u) o); from = rest })
  way_more (read_at c i r) (read_at e k q) o rest (inl below) = inl (o.step.0 ∙ below.0, omega (arith, o.step.1, below.1))
  way_more (read_at c i r) (read_at e k q) o rest (inr by) = inr (record {
    update = by.update;
    to = inr (elim by.to [
      | inl same ↦ absurd (no_read e k q by.update same)
      | inr more ↦ leads_more (Edge W) (read_at c i r) (read_at e k q) (write by.update) o more
    ]);
    from = by.from;
  }) where
    no_read : (e : Correct) (k : ℕ) (q : Read) (u : Update) → read_at e k q ≡ write u → ⊥
    no_read e k q u same = cc

  -- a path to a read stays with reads of its node, or goes over a write
  way : (a : Operation) → ObservedBefore W a (read_at d j s) → IsReadBelow a d j ⊎ GoesByWrite W a (read_at d j s)
  way a o = (back_along (Edge W) (λ (x : Operation). ObservedBefore W x (read_at d j s) × (IsReadBelow x d j ⊎ GoesByWrite W x (read_at d j s))) (read_at d j s)
      (λ x step. (leads_one (Edge W) x (read_at d j s) step, way_last x step))
      (λ x y step far. (leads_more (Edge W) x y (read_at d j s) step far.0, way_more x y step far.0 far.1)) a o).1

-- a read that is observed before itself has a write that precedes itself by parents
pub read_circle : (W : World) → IsWorld W → (d : Correct) (j : ℕ) (s : Read) → ObservedBefore W (read_at d j s) (read_at d j s) → (t : Update) × Precedes (writes_of W) t t
read_circle W world d j s o = elim (way W d j s (read_at d j s) o) [
  | inl below ↦ absurd (itself j below.1)
  | inr by ↦ elim by.to [
    | inl same ↦ absurd (no_read d j s by.update same)
    | inr there ↦ (by.update, writes_to W world by.update by.update (leads_trans (Edge W) (write by.update) (read_at d j s) (write by.update) by.from there))
  ]
] where
  itself : (n : ℕ) → n < n → ⊥
  itself n less = omega (arith, less)

  no_read : (e : Correct) (k : ℕ) (q : Read) (u : Update) → read_at e k q ≡ write u → ⊥
  no_read e k q u same = cc
