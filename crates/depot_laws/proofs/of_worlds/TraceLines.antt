-- The operations of a correct node are one chain.
use Rattle.std.proofs.Common.{◌≡◌, ℕ, List, [], ◌∷◌, ◌++◌, take, drop, Some, refl, sym, ap, subst, ◌∙◌, inl, inr, ◌⊎◌, slice_get}
use Rattle.std.proofs.lemmas.List.{take-append-drop}
use Rattle.std.proofs.lemmas.Grind.{flat_map-append}
use Rattle.depot_base.specs.declared.update.Update.{Update}
use Rattle.depot_base.specs.declared.record.Record.{Record}
use Rattle.depot_base.specs.declared.record.Record.TheVariants.{Birth, OwnPut, OwnVoucher, Foreign, Conviction, Held}
use Rattle.depot_model.specs.lists.Lists.{IsIn}
use Rattle.depot_model.proofs.lists.Members.{in_parts, in_right}
use Rattle.depot_model.proofs.of_updates.Orders.{leads_one}
use Rattle.depot_model.specs.worlds.World.{Correct, World, IsWorld}
use Rattle.depot_model.specs.worlds.Causality.{Operation, write, read_at, puts_of, Edge, ObservedBefore, IsOf, StandsBefore, MadeBefore, IsLine}
use Rattle.std.proofs.lemmas.Bool.{cases_order}
use Rattle.depot_laws.proofs.own_updates.Puts.{put_by, PutAt, put_at, put_is_accepted}
use Rattle.depot_laws.proofs.of_worlds.Worlds.{in_split, write_from}
use Rattle.depot_laws.proofs.of_worlds.Traces.{writes_follow}
use Rattle.depot_base.proofs.GeneralLaws.{same_at}

-- ---- one before another

-- x comes before y in a list
abbrev pub Stands : {X : Type 0} → X → X → List X → Type 0
Stands x y [] = ⊥
Stands x y (z ∷ zs) = ((z ≡ x) × IsIn y zs) ⊎ Stands x y zs

-- the parts of a list around one of it
record IsAround (u : Update) (us : List Update) : Type 0 where
  pub front : List Update
  pub behind : List Update
  pub parts : us ≡ front ++ u ∷ behind

around : (u : Update) (us : List Update) → IsIn u us → IsAround u us
around u [] never = absurd never
around u (x ∷ us) (inl here) = record { front = []; behind = us; parts = ap (λ (y : Update). y ∷ us) here }
around u (x ∷ us) (inr there) = let a = around u us there in record { front = x ∷ a.front; behind = a.behind; parts = ap (λ (ys : List Update). x ∷ ys) a.parts }

-- it is in what is before the other
pub stands_before : (t u : Update) (us : List Update) → Stands t u us → StandsBefore us t u
stands_before t u [] never = absurd never
stands_before t u (x ∷ us) (inl first) = let a = around u us first.1 in record { front = x ∷ a.front; behind = a.behind; parts = ap (λ (ys : List Update). x ∷ ys) a.parts; earlier = inl first.0 }
stands_before t u (x ∷ us) (inr later) =
    let s = stands_before t u us later in
    record { front = x ∷ s.front; behind = s.behind; parts = ap (λ (ys : List Update). x ∷ ys) s.parts; earlier = inr s.earlier }

-- and the other way
stands : (t u : Update) (us front behind : List Update) → us ≡ front ++ u ∷ behind → IsIn t front → Stands t u us
stands t u us [] behind parts never = absurd never
stands t u [] (y ∷ front) behind parts on = absurd cc
stands t u (x ∷ us) (y ∷ front) behind parts on =
    let head : x ≡ y = cc in
    let rest : us ≡ front ++ u ∷ behind = cc in
    elim on [
      | inl here ↦ inl (head ∙ here, in_split front u behind us rest)
      | inr there ↦ inr (stands t u us front behind rest there)
    ]

-- two of a list are one, or one comes before the other
pub stand : {X : Type 0} (x y : X) (xs : List X) → IsIn x xs → IsIn y xs → (x ≡ y) ⊎ (Stands x y xs ⊎ Stands y x xs)
stand x y [] never on = absurd never
stand x y (z ∷ zs) (inl one) (inl two) = inl (sym one ∙ two)
stand x y (z ∷ zs) (inl one) (inr two) = inr (inl (inl (one, two)))
stand x y (z ∷ zs) (inr one) (inl two) = inr (inr (inl (two, one)))
stand x y (z ∷ zs) (inr one) (inr two) = elim (stand x y zs one two) [
  | inl same ↦ inl same
  | inr other ↦ inr (elim other [ inl first ↦ inl (inr first) | inr second ↦ inr (inr second) ])
]

-- ---- own updates in their order

-- an own update is put before or after this many records
put_parts : (u : Update) (n : ℕ) (J : List Record) → IsIn u (puts_of J) → IsIn u (puts_of (take n J)) ⊎ IsIn u (puts_of (drop n J))
put_parts u n J on = in_parts u (puts_of (take n J)) (puts_of (drop n J)) (subst (λ (us : List Update). IsIn u us) (ap puts_of (sym (take-append-drop n J)) ∙ flat_map-append put_by (take n J) (drop n J)) on)

-- an own update that was put before another
pub record PutAfter (t u : Update) (J : List Record) : Type 0 where
  pub put : PutAt u J
  pub earlier : IsIn t (puts_of put.before)

behind_one : (t u : Update) (r : Record) (J : List Record) → PutAfter t u J → PutAfter t u (r ∷ J)
behind_one t u r J p = record {
  put = record { before = r ∷ p.put.before; values = p.put.values; after = p.put.after; is = ap (λ (K : List Record). r ∷ K) p.put.is };
  earlier = in_right t (put_by r) (puts_of p.put.before) p.earlier;
}

pub put_after : (t u : Update) (J : List Record) → Stands t u (puts_of J) → PutAfter t u J
put_after t u [] never = absurd never
put_after t u (OwnPut w values ∷ J) (inl first) =
    let p = put_at u J first.1 in
    record {
      put = record { before = OwnPut w values ∷ p.before; values = p.values; after = p.after; is = ap (λ (K : List Record). OwnPut w values ∷ K) p.is };
      earlier = inl first.0;
    }
put_after t u (OwnPut w values ∷ J) (inr later) = behind_one t u (OwnPut w values) J (put_after t u J later)
put_after t u (Birth node h ∷ J) later = behind_one t u (Birth node h) J (put_after t u J later)
put_after t u (OwnVoucher v ∷ J) later = behind_one t u (OwnVoucher v) J (put_after t u J later)
put_after t u (Foreign s ∷ J) later = behind_one t u (Foreign s) J (put_after t u J later)
put_after t u (Conviction p ∷ J) later = behind_one t u (Conviction p) J (put_after t u J later)
put_after t u (Held value ∷ J) later = behind_one t u (Held value) J (put_after t u J later)

-- ---- the chain

-- one of two operations was made before the other
total : (c : Correct) (a b : Operation) → IsOf c a → IsOf c b → (a ≡ b) ⊎ (MadeBefore c a b ⊎ MadeBefore c b a)
total c (write t) (write u) one two = elim (stand t u (puts_of c.journal) one two) [
  | inl same ↦ inl (ap (λ (x : Update). write x) same)
  | inr other ↦ inr (elim other [ inl first ↦ inl (stands_before t u (puts_of c.journal) first) | inr second ↦ inr (stands_before u t (puts_of c.journal) second) ])
]
total c (write u) (read_at d place r) one two = inr (put_parts u r.at c.journal one)
total c (read_at d place r) (write u) one two = inr (elim (put_parts u r.at c.journal two) [ inl before ↦ inr before | inr behind ↦ inl behind ])
total c (read_at d i r) (read_at e j s) one two = elim (cases_order i j) [
  | inl same ↦
      let node : d ≡ e = one.0 ∙ sym two.0 in
      let answer : r ≡ s = same_at c.reads i j r s same one.1 two.1 in
      inl cc
  | inr other ↦ inr other
]

module _ (W : World) (world : IsWorld W) where
  -- what was made before is observed before
  order : (c : Correct) → IsIn c W.nodes → (a b : Operation) → IsOf c a → IsOf c b → MadeBefore c a b → ObservedBefore W a b
  order c c_on (write t) (write u) one two made =
      let p = put_after t u c.journal (stands t u (puts_of c.journal) made.front made.behind made.parts made.earlier) in
      writes_follow W world c c_on p.put.before (OwnPut u p.put.values) p.put.after p.put.is t u (put_is_accepted t p.put.before p.earlier) (inl refl)
  order c c_on (write u) (read_at d place r) one two made = subst (λ (x : Correct). ObservedBefore W (write u) (read_at x place r)) (sym two.0) (leads_one (Edge W) (write u) (read_at c place r) (record {
    above = write_from W c u c_on (put_is_accepted u c.journal one);
    below = (c_on, two.1);
    step = put_is_accepted u (take r.at c.journal) made;
  }))
  order c c_on (read_at d place r) (write u) one two made = subst (λ (x : Correct). ObservedBefore W (read_at x place r) (write u)) (sym one.0) (leads_one (Edge W) (read_at c place r) (write u) (record {
    above = (c_on, one.1);
    below = write_from W c u c_on (put_is_accepted u c.journal two);
    step = made;
  }))
  order c c_on (read_at d i r) (read_at e j s) one two made = leads_one (Edge W) (read_at d i r) (read_at e j s) (record {
    above = subst (λ (x : Correct). IsIn x W.nodes × (slice_get x.reads i ≡ Some r)) (sym one.0) (c_on, one.1);
    below = subst (λ (x : Correct). IsIn x W.nodes × (slice_get x.reads j ≡ Some s)) (sym two.0) (c_on, two.1);
    step = (one.0 ∙ sym two.0, made);
  })

  pub line : (c : Correct) → IsIn c W.nodes → IsLine W c
  line c c_on = record { total = total c; order = order c c_on }
