-- Observation is a strict partial order: each observation raises a rank, or the place of a read.
use Rattle.std.proofs.Common.{◌≡◌, ℕ, zero, suc, ◌+◌, ◌*◌, ◌<◌, ◌≤◌, List, [], ◌∷◌, ◌++◌, take, drop, Some, sym, ap, subst, ◌∙◌, inl, inr, ◌⊎◌, arith, append_assoc, slice_get}
use Rattle.std.proofs.lemmas.List.{take-append-drop, take-take}
use Rattle.depot_base.specs.declared.update.Update.{Update}
use Rattle.depot_base.specs.declared.record.Record.{Record}
use Rattle.depot_base.specs.declared.record.Record.TheVariants.{OwnPut}
use Rattle.depot_model.specs.lists.Lists.{IsIn}
use Rattle.depot_model.specs.texts.Texts.{id_of_update}
use Rattle.depot_model.specs.updates.Order.{parents}
use Rattle.depot_model.specs.updates.History.{greatest_clock}
use Rattle.depot_model.specs.journals.Journal.{accepted, accepted_by}
use Rattle.depot_model.proofs.lists.Members.{all_at}
use Rattle.depot_model.proofs.of_updates.Orders.{leads_trans}
use Rattle.depot_model.proofs.lists.Elements.{in_at}
use Rattle.depot_model.specs.worlds.World.{Read, Correct, World, setting_of, NeverFall, IsWorld, writes_of}
use Rattle.depot_model.specs.worlds.Causality.{Operation, write, read_at, puts_of, Edge, IsStrictOrder}
use Rattle.depot_laws.specs.OneText.{HaveOneText}
use Rattle.depot_laws.proofs.lists.Splits.{flat_left}
use Rattle.depot_laws.proofs.orders.Clocks.{clock_below, greatest_within, next_clock}
use Rattle.depot_laws.proofs.own_updates.Puts.{PutAt, put_at, put_allowed}
use Rattle.depot_laws.proofs.orders.ParentClocks.{parent_is_lower}
use Rattle.depot_laws.proofs.orders.Paths.{back_along}
use Rattle.depot_laws.proofs.of_worlds.Worlds.{taken_in, write_to, write_from, journal_lawful, one_write}
use Rattle.depot_laws.proofs.own_updates.Nexts.{next_of}

-- ---- reads

-- a later read has no shorter journal
later_is_longer : (rs : List Read) (i j : ℕ) (r s : Read) → NeverFall rs → slice_get rs i ≡ Some r → slice_get rs j ≡ Some s → i < j → r.at ≤ s.at
later_is_longer [] i j r s rise r_at s_at less = absurd cc
later_is_longer (x ∷ rs) zero zero r s rise r_at s_at less = absurd (omega arith)
later_is_longer (x ∷ rs) zero (suc j) r s rise r_at s_at less =
    let same : x ≡ r = cc in
    subst (λ (y : Read). y.at ≤ s.at) same (all_at (λ (y : Read). x.at ≤ y.at) rs s rise.0 (in_at rs j s s_at))
later_is_longer (x ∷ rs) (suc i) zero r s rise r_at s_at less = absurd (omega arith)
later_is_longer (x ∷ rs) (suc i) (suc j) r s rise r_at s_at less = later_is_longer rs i j r s rise.1 r_at s_at (omega arith)

-- more records accept no less
pub taken_more : (t : Update) (m n : ℕ) (J : List Record) → m ≤ n → IsIn t (accepted (take m J)) → IsIn t (accepted (take n J))
taken_more t m n J le on = taken_in accepted_by t m (take n J) (subst (λ (K : List Record). IsIn t (accepted K)) (sym (take-take m n J le)) on)

-- a put after this many records, and that all that these accepted was accepted before it
pub record PutBehind (u : Update) (n : ℕ) (J : List Record) : Type 0 where
  pub put : PutAt u J
  pub earlier : (t : Update) → IsIn t (accepted (take n J)) → IsIn t (accepted put.before)

pub put_behind : (u : Update) (n : ℕ) (J : List Record) → IsIn u (puts_of (drop n J)) → PutBehind u n J
put_behind u n J on =
    let p = put_at u (drop n J) on in
    record {
      put = record {
        before = take n J ++ p.before;
        values = p.values;
        after = p.after;
        is = sym (take-append-drop n J) ∙ ap (λ (K : List Record). take n J ++ K) p.is ∙ sym (append_assoc (take n J) p.before (OwnPut u p.values ∷ p.after));
      };
      earlier = λ t t_on. flat_left accepted_by t (take n J) p.before t_on;
    }

-- ---- the rank

-- twice the clock of a write; of a read twice the greatest clock that its journal had accepted, and one
rank : Operation → ℕ
rank (write u) = 2 * u.clock
rank (read_at c place r) = 2 * greatest_clock (accepted (take r.at c.journal)) + 1

place_of : Operation → ℕ
place_of (write u) = 0
place_of (read_at c place r) = place

-- no higher by rank, and lower by rank or by place
record IsLower (a b : Operation) : Type 0 where
  pub low : rank a ≤ rank b
  pub strict : (rank a < rank b) ⊎ (place_of a < place_of b)

lower_trans : (a b c : Operation) → IsLower a b → IsLower b c → IsLower a c
lower_trans a b c p q = record {
  low = omega (arith, p.low, q.low);
  strict = elim p.strict [
    | inl less ↦ inl (omega (arith, less, q.low))
    | inr before ↦ elim q.strict [ inl less ↦ inl (omega (arith, p.low, less)) | inr behind ↦ inr (omega (arith, before, behind)) ]
  ];
}

not_lower : (a : Operation) → IsLower a a → ⊥
not_lower a p = elim p.strict [ inl less ↦ omega (arith, less) | inr before ↦ omega (arith, before) ]

greatest_more : (us vs : List Update) → ((t : Update) → IsIn t us → IsIn t vs) → greatest_clock us ≤ greatest_clock vs
greatest_more us vs more = greatest_within us (greatest_clock vs) (λ t on. clock_below t vs (more t on))

module _ (W : World) (world : IsWorld W) where
  -- an earlier read of a node saw no more than a later one
  pub reads_grow : (c : Correct) (i j : ℕ) (r s : Read) → IsIn c W.nodes → slice_get c.reads i ≡ Some r → slice_get c.reads j ≡ Some s → i < j → (t : Update) → IsIn t (accepted (take r.at c.journal)) → IsIn t (accepted (take s.at c.journal))
  reads_grow c i j r s c_on r_at s_at less t on = taken_more t r.at s.at c.journal (later_is_longer c.reads i j r s (world.correct c c_on).in_order r_at s_at less) on

  module _ (free : HaveOneText W) where
    -- a write is above its parents
    write_above : (t u : Update) → IsIn t (writes_of W) → IsIn u (writes_of W) → IsIn (id_of_update t) (parents u) → t.clock < u.clock
    write_above t u t_on u_on parent =
        let w = write_to W u u_on in
        let low = parent_is_lower (setting_of W w.by) w.by.journal u (id_of_update t) (journal_lawful W world w.by w.correct) w.accepted parent in
        let same = one_write W world free low.lower t (write_from W w.by low.lower w.correct low.on) t_on low.id in
        subst (λ (x : Update). x.clock < u.clock) same low.clock

    rises : (a b : Operation) → Edge W a b → IsLower a b
    unfolding rank place_of
    rises (write t) (write u) o = let above = write_above t u o.above o.below o.step in record { low = omega (arith, above); strict = inl (omega (arith, above)) }
    rises (write u) (read_at c place r) o = let below = clock_below u (accepted (take r.at c.journal)) o.step in record { low = omega (arith, below); strict = inl (omega (arith, below)) }
    rises (read_at c i r) (read_at d j s) o =
        let s_at : slice_get c.reads j ≡ Some s = subst (λ (x : Correct). slice_get x.reads j ≡ Some s) (sym o.step.0) o.below.1 in
        let more = greatest_more (accepted (take r.at c.journal)) (accepted (take s.at c.journal)) (reads_grow c i j r s o.above.0 o.above.1 s_at o.step.1) in
        subst (λ (x : Correct). IsLower (read_at c i r) (read_at x j s)) o.step.0 (record { low = omega (arith, more); strict = inr o.step.1 })
    rises (read_at c place r) (write u) o =
        let p = put_behind u r.at c.journal o.step in
        let may = put_allowed (setting_of W c) c.journal u (journal_lawful W world c o.above.0) p.put in
        let clock : u.clock ≡ greatest_clock (accepted p.put.before) + 1 = ap (λ (x : Update). x.clock) (next_of may) ∙ next_clock c.node p.put.before u.writes in
        let more = greatest_more (accepted (take r.at c.journal)) (accepted p.put.before) p.earlier in
        record { low = omega (arith, clock, more); strict = inl (omega (arith, clock, more)) }

    pub strict : IsStrictOrder W
    strict = record {
      onward = leads_trans (Edge W);
      never = λ a o. not_lower a (back_along (Edge W) (λ (x : Operation). IsLower x a) a (λ x s. rises x a s) (λ x y s low. lower_trans x y a (rises x y s) low) a o);
    }
