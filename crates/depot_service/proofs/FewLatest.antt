-- A key has at most as many latest writes in a lawful journal as the journal has leaves: no two of them lead to one
-- leaf.
use Rattle.std.proofs.Common.{◌≡◌, ◌≤◌, ℕ, suc, List, [], ◌∷◌, length, Bool, true, false, not, cond, refl, sym, ap, subst, ◌∙◌, inl, inr, ◌⊎◌, arith}
use Rattle.std.specs.Ordering.{is_lt}
use Rattle.std.specs.Str.{bytes_eq}
use Rattle.std.proofs.lemmas.Bool.{cases_Bool, false_from_ne_true, or_from}
use Rattle.depot_base.specs.Zeros.{zeros}
use Rattle.depot_base.specs.declared.update.Update.{Update}
use Rattle.depot_base.specs.declared.record.Record.{Record}
use Rattle.depot_model.specs.lists.Lists.{IsIn, AreApart, is_among}
use Rattle.depot_model.specs.texts.Texts.{id_of_update}
use Rattle.depot_model.specs.updates.Order.{AreLatestIn, IsCausal, IsParent, IsPath, Leads, Precedes, RisesStrictly, listed, prevs}
use Rattle.depot_model.specs.updates.History.{is_prev_in, leaves_of}
use Rattle.depot_model.specs.journals.Journal.{accepted}
use Rattle.depot_model.specs.checks.Checks.{Setting}
use Rattle.depot_model.specs.journals.Lawful.{IsLawful}
use Rattle.depot_model.proofs.of_updates.LatestLaws.{listed_one_way}
use Rattle.depot_model.proofs.lists.Members.{all_at, among_to, any_to, in_filter}
use Rattle.depot_model.proofs.of_updates.Orders.{causal_behind, child_is_behind, first_names_none, leads_more, leads_one, leads_wider, one_of_id}
use Rattle.depot_laws.proofs.records.Causes.{lawful_is_causal}
use Rattle.depot_laws.proofs.records.FewLeaves.{few_leaves}
use Rattle.depot_laws.proofs.orders.Follows.{prev_is_parent}
use Rattle.depot_laws.proofs.lists.RisingNumbers.{no_more}

-- ---- paths that can be gone back in one way

module _ {X : Type 0} (step : X → X → Type 0) (back : (x y z : X) → step x z → step y z → x ≡ y) where
  -- a path to z comes by what is one step before it
  to_last : (x w : X) (ws : List X) (z : X) → step x z → IsPath step w ws z → (w ≡ x) ⊎ Leads step w x
  to_last x w [] z last path = inl (back w x z path last)
  to_last x w (v ∷ ws) z last path = inr (elim (to_last x v ws z last path.1) [
    | inl same ↦ subst (λ y. Leads step w y) same (leads_one step w v path.0)
    | inr on ↦ leads_more step w v x path.0 on
  ])

  -- of two that lead to one, one leads to the other, or they are one
  pub in_line : (t x : X) (stops : List X) (z : X) → Leads step t z → IsPath step x stops z → (t ≡ x) ⊎ (Leads step t x ⊎ Leads step x t)
  in_line t x [] z on last = elim (to_last x t on.stops z last on.path) [ inl same ↦ inl same | inr before ↦ inr (inl before) ]
  in_line t x (y ∷ stops) z on path = elim (in_line t y stops z on path.1) [
    | inl same ↦ inr (inr (leads_one step x t (subst (λ w. step x w) (sym same) path.0)))
    | inr (inl before) ↦ elim (to_last x t before.stops y path.0 before.path) [ inl same ↦ inl same | inr to ↦ inr (inl to) ]
    | inr (inr behind) ↦ inr (inr (leads_more step x y t path.0 behind))
  ]

-- ---- the leaf that an update leads to by prevs

-- both are among these updates, and t is the prev of u
record IsPrevOf (us : List Update) (t u : Update) : Type 0 where
  pub above : IsIn t us
  pub below : IsIn u us
  pub named : IsIn (id_of_update t) (prevs u)

-- an update has one prev
one_prev : (u : Update) (g h : List ℕ) → IsIn g (prevs u) → IsIn h (prevs u) → g ≡ h
one_prev u g h = by_test (bytes_eq u.prev zeros) where
  by_test : (b : Bool) → IsIn g (cond b [] (u.prev ∷ [])) → IsIn h (cond b [] (u.prev ∷ [])) → g ≡ h
  by_test true one two = absurd one
  by_test false (inl one) (inl two) = sym one ∙ two
  by_test false (inr never) two = absurd never
  by_test false one (inr never) = absurd never

-- so by prevs one goes back in one way
one_way : (us : List Update) → IsCausal [] us → (t u w : Update) → IsPrevOf us t w → IsPrevOf us u w → t ≡ u
one_way us c t u w one two = one_of_id [] us t u c one.above two.above (one_prev w (id_of_update t) (id_of_update u) one.named two.named)

-- what is the prev of the prev precedes
by_prevs : (us : List Update) (t u : Update) → Leads (IsPrevOf us) t u → Precedes us t u
by_prevs us t u on = leads_wider (IsPrevOf us) (IsParent us) (λ x y s. record { above = s.above; below = s.below; named = prev_is_parent y (id_of_update x) s.named }) t u on

-- an update is this one, or leads to it by prevs
abbrev IsUpTo : List Update → Update → Update → Type 0
IsUpTo us t u = (t ≡ u) ⊎ Leads (IsPrevOf us) t u

-- the leaf that an update is, or leads to
record HasTip (us : List Update) (t : Update) : Type 0 where
  pub tip : Update
  pub on : IsIn tip us
  pub last : is_prev_in us (id_of_update tip) ≡ false
  pub up : IsUpTo us t tip

-- an earlier update is the prev of none of those after
tip_behind : (ids : List (List ℕ)) (x : Update) (xs : List Update) (t : Update) → IsCausal ids (x ∷ xs) → HasTip xs t → HasTip (x ∷ xs) t
tip_behind ids x xs t c l = record {
  tip = l.tip;
  on = inr l.on;
  last = or_from _ _ (false_from_ne_true _ (λ e. first_names_none ids x xs l.tip c (inr l.on) (prev_is_parent x (id_of_update l.tip) (among_to (id_of_update l.tip) (prevs x) e)))) l.last;
  up = elim l.up [
    | inl same ↦ inl same
    | inr leads ↦ inr (leads_wider (IsPrevOf xs) (IsPrevOf (x ∷ xs)) (λ y z s. record { above = inr s.above; below = inr s.below; named = s.named }) t l.tip leads)
  ];
}

tip_of : (ids : List (List ℕ)) (us : List Update) (t : Update) → IsCausal ids us → IsIn t us → HasTip us t
tip_of ids [] t c never = absurd never
tip_of ids (x ∷ xs) t c (inr there) = tip_behind ids x xs t c (tip_of (id_of_update x ∷ ids) xs t (causal_behind ids x xs c) there)
tip_of ids (x ∷ xs) t c (inl here) = elim (cases_Bool (is_prev_in (x ∷ xs) (id_of_update t))) [
  | inr last ↦ record { tip = t; on = inl here; last = last; up = inl refl }
  | inl named ↦
      let child = any_to (λ (w : Update). is_among (id_of_update t) (prevs w)) (x ∷ xs) named in
      let step : IsPrevOf (x ∷ xs) t child.0 = record { above = inl here; below = child.1.0; named = among_to (id_of_update t) (prevs child.0) child.1.1 } in
      let there = child_is_behind ids x xs t child.0 c (record { above = inl here; below = child.1.0; named = prev_is_parent child.0 (id_of_update t) step.named }) in
      let l = tip_behind ids x xs child.0 c (tip_of (id_of_update x ∷ ids) xs child.0 (causal_behind ids x xs c) there) in
      record {
        tip = l.tip;
        on = l.on;
        last = l.last;
        up = inr (elim l.up [
          | inl same ↦ subst (λ (w : Update). Leads (IsPrevOf (x ∷ xs)) t w) same (leads_one (IsPrevOf (x ∷ xs)) t child.0 step)
          | inr on ↦ leads_more (IsPrevOf (x ∷ xs)) t child.0 l.tip step on
        ]);
      }
]

-- ---- updates none of which precedes another

-- none of these precedes another, and none occurs twice
record AreSideBySide (us ts : List Update) : Type 0 where
  pub on : (t : Update) → IsIn t ts → IsIn t us
  pub apart : AreApart ts
  pub none : (t u : Update) → IsIn t ts → IsIn u ts → Precedes us t u → ⊥

-- two that lead to one leaf
one_tip : (us : List Update) (t u tip : Update) → IsCausal [] us → IsUpTo us t tip → IsUpTo us u tip → (t ≡ u) ⊎ (Precedes us t u ⊎ Precedes us u t)
one_tip us t u tip c (inl one) (inl two) = inl (one ∙ sym two)
one_tip us t u tip c (inl one) (inr two) = inr (inr (by_prevs us u t (subst (λ (x : Update). Leads (IsPrevOf us) u x) (sym one) two)))
one_tip us t u tip c (inr one) (inl two) = inr (inl (by_prevs us t u (subst (λ (x : Update). Leads (IsPrevOf us) t x) (sym two) one)))
one_tip us t u tip c (inr one) (inr two) = elim (in_line (IsPrevOf us) (one_way us c) t u two.stops tip one two.path) [
  | inl same ↦ inl same
  | inr (inl before) ↦ inr (inl (by_prevs us t u before))
  | inr (inr behind) ↦ inr (inr (by_prevs us u t behind))
]

-- their leaves
record HaveTips (us ts : List Update) : Type 0 where
  pub tips : List Update
  pub count : length tips ≡ length ts
  pub leaves : (l : Update) → IsIn l tips → IsIn l (leaves_of us)
  pub apart : AreApart tips
  pub from : (l : Update) → IsIn l tips → (t : Update) × (IsIn t ts × IsUpTo us t l)

tips_of : (us ts : List Update) → IsCausal [] us → AreSideBySide us ts → HaveTips us ts
unfolding leaves_of
tips_of us [] c side = record { tips = []; count = refl; leaves = λ l never. absurd never; apart = tt; from = λ l never. absurd never }
tips_of us (t ∷ ts) c side =
    let rest = tips_of us ts c (record { on = λ u on. side.on u (inr on); apart = side.apart.1; none = λ u w one two. side.none u w (inr one) (inr two) }) in
    let own = tip_of [] us t c (side.on t (inl refl)) in
    record {
      tips = own.tip ∷ rest.tips;
      count = ap suc rest.count;
      leaves = λ l on. elim on [
        | inl here ↦ subst (λ (x : Update). IsIn x (leaves_of us)) here (in_filter (λ (x : Update). not (is_prev_in us (id_of_update x))) own.tip us own.on (ap not own.last))
        | inr there ↦ rest.leaves l there
      ];
      apart = (
        λ twice.
            let other = rest.from own.tip twice in
            elim (one_tip us t other.0 own.tip c own.up other.1.1) [
              | inl same ↦ side.apart.0 (subst (λ (x : Update). IsIn x ts) (sym same) other.1.0)
              | inr (inl before) ↦ side.none t other.0 (inl refl) (inr other.1.0) before
              | inr (inr behind) ↦ side.none other.0 t (inr other.1.0) (inl refl) behind
            ],
        rest.apart,
      );
      from = λ l on. elim on [
        | inl here ↦ (t, (inl refl, subst (λ (x : Update). IsUpTo us t x) here own.up))
        | inr there ↦ let f = rest.from l there in (f.0, (inr f.1.0, f.1.1))
      ];
    }

-- ---- latest writes

-- what rises strictly occurs once
rising_apart : (us : List Update) → RisesStrictly us → AreApart us
rising_apart [] rise = tt
rising_apart (u ∷ us) rise = (λ on. let before = all_at (λ t. is_lt (listed u t) ≡ true) us u rise.0 on in listed_one_way u u before before, rising_apart us rise.1)

-- the latest writes of a key are at most 4,097
pub few_latest : (here : Setting) (J : List Record) (key : List ℕ) (us : List Update) → IsLawful here J → AreLatestIn key (accepted J) us → length us ≤ 4097
few_latest here J key us l latest =
    let c = lawful_is_causal here J l in
    let t = tips_of (accepted J) us c (record { on = λ u on. (latest.only u on).known; apart = rising_apart us latest.rising; none = λ u w one two before. (latest.only u one).last w (latest.only w two).known (latest.only w two).writes before }) in
    let short = no_more t.tips (leaves_of (accepted J)) t.apart t.leaves in
    omega (arith, short, t.count, few_leaves here J l)
