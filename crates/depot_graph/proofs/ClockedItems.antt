-- Updates as items of clocks: which precedes which.
use Rattle.std.proofs.Common.{◌≡◌, ℕ, zero, suc, ◌+◌, ◌<◌, List, [], ◌∷◌, ◌++◌, length, map, get_or, cond, eqb, Some, refl, sym, ap, subst, ◌∙◌, arith, inl, inr, ◌⊎◌, Contains, slice_get}
use Rattle.std.specs.List.{sum_by}
use Rattle.std.proofs.lemmas.List.{length-append}
use Rattle.std.proofs.lemmas.List.Sums.{sum_by-cons}
use Rattle.std.proofs.lemmas.Option.{slice_get_within, slice_get-get_or, same_Some}
use Rattle.depot_base.specs.declared.update.Update.{Update}
use Rattle.depot_model.specs.lists.Lists.{IsIn}
use Rattle.depot_model.specs.texts.Texts.{id_of_update}
use Rattle.depot_model.specs.updates.Order.{IsPath, IsParent, Precedes, parents, IsCausal}
use Rattle.depot_model.specs.lists.Items.{PrecedesAt}
use Rattle.depot_model.proofs.lists.Elements.{in_at}
use Rattle.depot_model.proofs.lists.Members.{in_pushed}
use Rattle.depot_model.proofs.of_updates.Orders.{causal_front, parent_is_there, parents_of_last, leads_trans}
use Rattle.depot_order.specs.declared.chains.Spot.{Spot}
use Rattle.depot_order.proofs.Placing.{spot_at}
use Rattle.depot_order.specs.Spots.{chains_of, spot_count}
use Rattle.depot_order.specs.ChainItems.{ChainItem, LeadsTo, IsUpTo, IsChainItemAt, chain_length, number_of_chains, ItemPrecedes}
use Rattle.depot_order.proofs.ItemPaths.{up_to_trans}
use Rattle.depot_base.proofs.GeneralLaws.{from_pushed, at_place}
use Rattle.depot_graph.proofs.Front.{apart}
use Rattle.depot_graph.specs.OrderLaws.{at_both}
use Rattle.depot_graph.proofs.AddLaws.{is_fresh}

-- the parents of each item are the places of its update's parents
pub record AreClocked (us : List Update) (items : List ChainItem) : Type 0 where
  pub long : length items ≡ length us
  pub earlier : (b p : ℕ) (x : ChainItem) → slice_get items b ≡ Some x → Contains x.parents p → p < b
  pub told : (a b : ℕ) (t u : Update) (x : ChainItem) → slice_get us a ≡ Some t → slice_get us b ≡ Some u → slice_get items b ≡ Some x → Contains x.parents a → IsIn (id_of_update t) (parents u)
  pub tells : (a b : ℕ) (t u : Update) (x : ChainItem) → slice_get us a ≡ Some t → slice_get us b ≡ Some u → slice_get items b ≡ Some x → IsIn (id_of_update t) (parents u) → Contains x.parents a

-- ---- paths of parents, both ways

one_step : (us : List Update) (t u : Update) (a b : ℕ) → slice_get us a ≡ Some t → slice_get us b ≡ Some u → IsIn (id_of_update t) (parents u) → Precedes us t u
one_step us t u a b at_a at_b named = record { stops = []; path = record { above = in_at us a t at_a; below = in_at us b u at_b; named = named } }

-- what leads from an item to another
leads_up : (us : List Update) (items : List ChainItem) (steps a b : ℕ) (t u : Update) → AreClocked us items → slice_get us a ≡ Some t → slice_get us b ≡ Some u → LeadsTo items steps b a → (u ≡ t) ⊎ Precedes us t u
leads_up us items zero a b t u c at_a at_b same = inl (same_Some u t (sym at_b ∙ (ap (slice_get us) same ∙ at_a)))
leads_up us items (suc steps) a b t u c at_a at_b l =
    let p = l.0 in
    let x = l.1.0.0 in
    let low : p < length us = omega (arith, c.earlier b p x l.1.0.1.0 l.1.0.1.1, slice_get_within us b u at_b) in
    let w = get_or us p u in
    let at_p : slice_get us p ≡ Some w = slice_get-get_or us p u low in
    let up = one_step us w u p b at_p at_b (c.told p b w u x at_p at_b l.1.0.1.0 l.1.0.1.1) in
    inr (elim (leads_up us items steps a p t w c at_a at_p l.1.1) [
      | inl here ↦ subst (λ (v : Update). Precedes us v u) here up
      | inr further ↦ leads_trans (IsParent us) t w u further up
    ])

preceding : (us : List Update) (items : List ChainItem) (a b : ℕ) (t u : Update) → AreClocked us items → slice_get us a ≡ Some t → slice_get us b ≡ Some u → ItemPrecedes items a b → Precedes us t u
preceding us items a b t u c at_a at_b p =
    let l = p.1 in
    let q = l.0 in
    let x = l.1.0.0 in
    let low : q < length us = omega (arith, c.earlier b q x l.1.0.1.0 l.1.0.1.1, slice_get_within us b u at_b) in
    let w = get_or us q u in
    let at_q : slice_get us q ≡ Some w = slice_get-get_or us q u low in
    let up = one_step us w u q b at_q at_b (c.told q b w u x at_q at_b l.1.0.1.0 l.1.0.1.1) in
    elim (leads_up us items p.0 a q t w c at_a at_q l.1.1) [
      | inl here ↦ subst (λ (v : Update). Precedes us v u) here up
      | inr further ↦ leads_trans (IsParent us) t w u further up
    ]

there : (us : List Update) (items : List ChainItem) (b : ℕ) (u : Update) → AreClocked us items → slice_get us b ≡ Some u → (x : ChainItem) × (slice_get items b ≡ Some x)
there us items b u c at = at_place items b (omega (arith, slice_get_within us b u at, c.long))

-- one of the updates is at a place
pub place_of : (us : List Update) (t : Update) → IsIn t us → (n : ℕ) × (slice_get us n ≡ Some t)
place_of [] t never = absurd never
place_of (u ∷ us) t (inl here) = (0, ap (λ (v : Update). Some v) here)
place_of (u ∷ us) t (inr on) = let r = place_of us t on in (suc r.0, r.1)

before_on : (items : List ChainItem) (a k b : ℕ) → ItemPrecedes items k b → IsUpTo items a k → ItemPrecedes items a b
before_on items a k b p u =
    let l = p.1 in
    let r = up_to_trans items a k l.0 u (p.0, l.1.1) in
    (r.0, (l.0, (l.1.0, r.1)))

leads_down : (us : List Update) (items : List ChainItem) (stops : List Update) (a b : ℕ) (t u : Update) → AreClocked us items → slice_get us a ≡ Some t → slice_get us b ≡ Some u → IsPath (IsParent us) t stops u → ItemPrecedes items a b
leads_down us items [] a b t u c at_a at_b path = let x = there us items b u c at_b in (0, (a, ((x.0, (x.1, c.tells a b t u x.0 at_a at_b x.1 path.named)), refl)))
leads_down us items (w ∷ stops) a b t u c at_a at_b path =
    let k = place_of us w path.0.below in
    let y = there us items k.0 w c k.1 in
    before_on items a k.0 b (leads_down us items stops k.0 b w u c k.1 at_b path.1) (1, (a, ((y.0, (y.1, c.tells a k.0 t w y.0 at_a k.1 y.1 path.0.named)), refl)))

-- an item precedes another exactly where its update precedes the other's
pub clocked_precedes : (us : List Update) (items : List ChainItem) (a b : ℕ) → AreClocked us items → a < length us → b < length us → (ItemPrecedes items a b → PrecedesAt us a b) × (PrecedesAt us a b → ItemPrecedes items a b)
clocked_precedes [] items a b c low_a low_b = absurd (omega (arith, low_a))
clocked_precedes (v ∷ vs) items a b c low_a low_b =
    let us = v ∷ vs in
    let t = get_or us a v in
    let u = get_or us b v in
    let at_a : slice_get us a ≡ Some t = slice_get-get_or us a v low_a in
    let at_b : slice_get us b ≡ Some u = slice_get-get_or us b v low_b in
    let both = at_both us a b t u at_a at_b in (
      (λ p. both.1 (preceding us items a b t u c at_a at_b p)),
      (λ p. let q = both.0 p in leads_down us items q.stops a b t u c at_a at_b q.path),
    )

-- ---- with one update more

pub clocked_none : AreClocked [] []
clocked_none = record { long = refl; earlier = λ b p x at on. absurd cc; told = λ a b t u x at_a at_b at on. absurd cc; tells = λ a b t u x at_a at_b at on. absurd cc }

-- the last is no parent of those before it, nor of itself
last_is_no_parent : (us : List Update) (u v : Update) → IsCausal [] (us ++ u ∷ []) → IsIn v (us ++ u ∷ []) → IsIn (id_of_update u) (parents v) → ⊥
last_is_no_parent us u v c on named = elim (in_pushed v us u on) [
  | inl before ↦ elim (parent_is_there [] us v (id_of_update u) (causal_front [] us (u ∷ []) c) before named) [
    | inl never ↦ absurd never
    | inr found ↦ apart [] us (u ∷ []) found.0 u c found.1.0 (inl refl) found.1.1
  ]
  | inr is_u ↦ elim (parents_of_last [] us u (id_of_update u) c (subst (λ (w : Update). IsIn (id_of_update u) (parents w)) (sym is_u) named)) [
    | inl never ↦ absurd never
    | inr among ↦ is_fresh us u c among
  ]
]

pub clocked_next : (us : List Update) (u : Update) (items : List ChainItem) (x : ChainItem) → IsCausal [] (us ++ u ∷ []) → AreClocked us items → ((p : ℕ) → Contains x.parents p → p < length us)
    → ((a : ℕ) (t : Update) → slice_get us a ≡ Some t → (Contains x.parents a → IsIn (id_of_update t) (parents u)) × (IsIn (id_of_update t) (parents u) → Contains x.parents a)) → AreClocked (us ++ u ∷ []) (items ++ x ∷ [])
clocked_next us u items x c old low named = record {
  long = omega (arith, old.long, length-append items (x ∷ []), length-append us (u ∷ []));
  earlier = λ b p y at on. elim (from_pushed items x b y at) [
    | inl h ↦ old.earlier b p y h on
    | inr h ↦ omega (arith, h.0, old.long, low p (subst (λ (z : ChainItem). Contains z.parents p) (sym h.1) on))
  ];
  told = λ a b t v y at_a at_b at on. elim (from_pushed items x b y at) [
    | inl h ↦
        let before : a < b = old.earlier b a y h on in
        let inside : b < length us = omega (arith, slice_get_within items b y h, old.long) in
        old.told a b t v y (back us u a t at_a (omega (arith, before, inside))) (back us u b v at_b inside) h on
    | inr h ↦
        let on_x : Contains x.parents a = subst (λ (z : ChainItem). Contains z.parents a) (sym h.1) on in
        let here : b ≡ length us = omega (arith, h.0, old.long) in
        let v_is : u ≡ v = last us u b v here at_b in
        subst (λ (w : Update). IsIn (id_of_update t) (parents w)) v_is ((named a t (back us u a t at_a (low a on_x))).0 on_x)
  ];
  tells = λ a b t v y at_a at_b at on. elim (from_pushed us u a t at_a) [
    | inr new_a ↦ absurd (last_is_no_parent us u v c (in_at (us ++ u ∷ []) b v at_b) (subst (λ (w : Update). IsIn (id_of_update w) (parents v)) (sym new_a.1) on))
    | inl old_a ↦ elim (from_pushed items x b y at) [
      | inl h ↦ old.tells a b t v y old_a (back us u b v at_b (omega (arith, slice_get_within items b y h, old.long))) h on
      | inr h ↦
          let here : b ≡ length us = omega (arith, h.0, old.long) in
          let v_is : u ≡ v = last us u b v here at_b in
          subst (λ (z : ChainItem). Contains z.parents a) h.1 ((named a t old_a).1 (subst (λ (w : Update). IsIn (id_of_update t) (parents w)) (sym v_is) on))
    ]
  ];
}
  where
    back : (us : List Update) (u : Update) (n : ℕ) (t : Update) → slice_get (us ++ u ∷ []) n ≡ Some t → n < length us → slice_get us n ≡ Some t
    back us u n t at low = elim (from_pushed us u n t at) [
      | inl h ↦ h
      | inr h ↦ absurd (omega (arith, h.0, low))
    ]

    last : (us : List Update) (u : Update) (n : ℕ) (t : Update) → n ≡ length us → slice_get (us ++ u ∷ []) n ≡ Some t → u ≡ t
    last us u n t here at = elim (from_pushed us u n t at) [
      | inl h ↦ absurd (omega (arith, here, slice_get_within us n t h))
      | inr h ↦ h.1
    ]

-- ---- chains

sum_by-map : {X Y : Type 0} (f : Y → ℕ) (g : X → Y) (xs : List X) → sum_by f (map g xs) ≡ sum_by (λ x. f (g x)) xs
sum_by-map f g [] = refl
sum_by-map f g (x ∷ xs) = sum_by-cons f (g x) (map g xs) ∙ (ap (λ (n : ℕ). f (g x) + n) (sum_by-map f g xs) ∙ sym (sum_by-cons (λ y. f (g y)) x xs))

-- the items are where their updates are in the forest by prev
abbrev pub AreSpotted : List ChainItem → List Spot → Type 0
AreSpotted items placed = map (λ x. record { chain = x.chain; place = x.place }) items ≡ placed

pub spotted_length : (items : List ChainItem) (placed : List Spot) (chain : ℕ) → AreSpotted items placed → chain_length items chain ≡ spot_count placed chain
spotted_length items placed chain same = mapped items ∙ ap (λ (l : List Spot). spot_count l chain) same where
  mapped : (xs : List ChainItem) → chain_length xs chain ≡ spot_count (map (λ x. record { chain = x.chain; place = x.place }) xs) chain
  mapped xs = sym (sum_by-map (λ (s : Spot). cond (eqb s.chain chain) 1 0) (λ (x : ChainItem). record { chain = x.chain; place = x.place }) xs)

pub spotted_number : (items : List ChainItem) (placed : List Spot) → AreSpotted items placed → number_of_chains items ≡ chains_of placed
spotted_number items placed same = mapped items ∙ ap chains_of same where
  mapped : (xs : List ChainItem) → number_of_chains xs ≡ chains_of (map (λ x. record { chain = x.chain; place = x.place }) xs)
  mapped xs = sym (sum_by-map (λ (s : Spot). cond (eqb s.place 0) 1 0) (λ (x : ChainItem). record { chain = x.chain; place = x.place }) xs)

pub spotted_at : (items : List ChainItem) (placed : List Spot) (item chain place : ℕ) → AreSpotted items placed → slice_get placed item ≡ Some (record { chain = chain; place = place }) → IsChainItemAt items item chain place
spotted_at items placed item chain place same at = found items item (ap (λ (l : List Spot). slice_get l item) same ∙ at) where
  found : (xs : List ChainItem) (n : ℕ) → slice_get {X = Spot} (map (λ x. spot_at x.chain x.place) xs) n ≡ Some (spot_at chain place) → IsChainItemAt xs n chain place
  found [] n e = absurd (none n e) where
    none : (k : ℕ) → slice_get {X = Spot} [] k ≡ Some (spot_at chain place) → ⊥
    none k at = cc
  found (x ∷ xs) zero e =
      let is : spot_at x.chain x.place ≡ spot_at chain place = same_Some (spot_at x.chain x.place) (spot_at chain place) e in
      (x, (refl, (ap (λ (s : Spot). s.chain) is, ap (λ (s : Spot). s.place) is)))
  found (x ∷ xs) (suc n) e = found xs n e
