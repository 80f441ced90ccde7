-- The two orders of updates by places, by paths of parents and as they are listed, are orders.
use Rattle.std.proofs.Common.{◌≡◌, ℕ, zero, suc, ◌<◌, ◌⊎◌, List, [], ◌∷◌, Some, Bool, true, false, refl, sym, ap, subst, ◌∙◌, arith, inl, inr, slice_get, length}
use Rattle.std.specs.Ordering.{is_lt}
use Rattle.std.proofs.lemmas.Bool.{cases_order}
use Rattle.depot_base.specs.declared.update.Update.{Update}
use Rattle.depot_model.specs.texts.Texts.{id_of_update}
use Rattle.depot_model.specs.updates.Order.{IsParent, Precedes, listed, IsCausal}
use Rattle.depot_model.specs.lists.Items.{PrecedesAt}
use Rattle.depot_model.proofs.lists.Elements.{in_at, both_at}
use Rattle.depot_model.proofs.of_updates.LatestLaws.{listed_one_way, listed_trans, listed_back}
use Rattle.depot_model.proofs.of_updates.Orders.{fresh, causal_behind, leads_trans, precedes_irreflexive}
use Rattle.depot_base.proofs.GeneralLaws.{at_place}
use Rattle.std.proofs.lemmas.Option.{same_Some}
use Rattle.depot_graph.specs.Listing.{ListedAt}

-- ---- by paths of parents

-- what is said of two places, where they are known
pub at_both : (us : List Update) (a b : ℕ) (t u : Update) → slice_get us a ≡ Some t → slice_get us b ≡ Some u → (PrecedesAt us a b → Precedes us t u) × (Precedes us t u → PrecedesAt us a b)
at_both us a b t u at_a at_b = (
  (λ p.
      let both = both_at us a b (Precedes us) p in
      let first : both.first ≡ t = same_Some _ _ (sym both.at_first ∙ at_a) in
      let second : both.second ≡ u = same_Some _ _ (sym both.at_second ∙ at_b) in
      subst (λ (x : Update). Precedes us x u) first (subst (Precedes us both.first) second both.holds)),
  (λ p. (t, (at_a, (u, (at_b, p))))),
)

pub precedes_no_self : (us : List Update) (a : ℕ) → IsCausal [] us → PrecedesAt us a a → ⊥
precedes_no_self us a c p = precedes_irreflexive [] us p.0 c ((at_both us a a p.0 p.0 p.1.0 p.1.0).0 p)

pub precedes_on : (us : List Update) (a b d : ℕ) → PrecedesAt us a b → PrecedesAt us b d → PrecedesAt us a d
precedes_on us a b d p q =
    let before = both_at us a b (Precedes us) p in
    let behind = both_at us b d (Precedes us) q in
    let first = (at_both us a b before.first behind.first before.at_first behind.at_first).0 p in
    (before.first, (before.at_first, (behind.second, (behind.at_second, leads_trans (IsParent us) before.first behind.first behind.second first behind.holds))))

-- ---- by ids

-- no id is at two places
pub one_place : (ids : List (List ℕ)) (us : List Update) (i j : ℕ) (t u : Update) → IsCausal ids us → slice_get us i ≡ Some t → slice_get us j ≡ Some u → id_of_update t ≡ id_of_update u → i ≡ j
one_place ids [] i j t u c at also same = absurd cc
one_place ids (x ∷ xs) zero zero t u c at also same = refl
one_place ids (x ∷ xs) zero (suc j) t u c at also same =
    let first : x ≡ t = cc in
    absurd (fresh (id_of_update x ∷ ids) xs u (causal_behind ids x xs c) (in_at xs j u also) (inl (ap id_of_update first ∙ same)))
one_place ids (x ∷ xs) (suc i) zero t u c at also same =
    let first : x ≡ u = cc in
    absurd (fresh (id_of_update x ∷ ids) xs t (causal_behind ids x xs c) (in_at xs i t at) (inl (ap id_of_update first ∙ sym same)))
one_place ids (x ∷ xs) (suc i) (suc j) t u c at also same = ap suc (one_place (id_of_update x ∷ ids) xs i j t u (causal_behind ids x xs c) at also same)

-- ---- as they are listed

abbrev ListedBefore : Update → Update → Type 0
ListedBefore t u = is_lt (listed t u) ≡ true

-- the same for the listed order
pub listed_both : (us : List Update) (a b : ℕ) (t u : Update) → slice_get us a ≡ Some t → slice_get us b ≡ Some u → ListedAt us a b → is_lt (listed t u) ≡ true
listed_both us a b t u at_a at_b p =
    let both = both_at us a b ListedBefore p in
    let first : both.first ≡ t = same_Some _ _ (sym both.at_first ∙ at_a) in
    let second : both.second ≡ u = same_Some _ _ (sym both.at_second ∙ at_b) in
    subst (λ (x : Update). ListedBefore x u) first (subst (ListedBefore both.first) second both.holds)

pub lists_no_self : (us : List Update) (a : ℕ) → ListedAt us a a → ⊥
lists_no_self us a p = let before = listed_both us a a p.0 p.0 p.1.0 p.1.0 p in listed_one_way p.0 p.0 before before

pub lists_on : (us : List Update) (a b d : ℕ) → ListedAt us a b → ListedAt us b d → ListedAt us a d
lists_on us a b d p q =
    let before = both_at us a b ListedBefore p in
    let behind = both_at us b d ListedBefore q in
    let first = listed_both us a b before.first behind.first before.at_first behind.at_first p in
    (before.first, (before.at_first, (behind.second, (behind.at_second, listed_trans before.first behind.first behind.second first behind.holds))))

-- of two places one is listed before the other, since no id is at both
lists_either : (b : Bool) (us : List Update) (x y : ℕ) (t u : Update) → is_lt (listed t u) ≡ b → slice_get us x ≡ Some t → slice_get us y ≡ Some u → (id_of_update u ≡ id_of_update t → ⊥) → ListedAt us x y ⊎ ListedAt us y x
lists_either true us x y t u e at_x at_y apart = inl (t, (at_x, (u, (at_y, e))))
lists_either false us x y t u e at_x at_y apart = inr (u, (at_y, (t, (at_x, listed_back t u e apart))))

pub lists_all : (us : List Update) (a b : ℕ) → IsCausal [] us → a < length us → b < length us → (a ≡ b) ⊎ (ListedAt us a b ⊎ ListedAt us b a)
lists_all us a b c low_a low_b =
    let t = at_place us a low_a in
    let u = at_place us b low_b in
    elim (cases_order a b) [
      | inl same ↦ inl same
      | inr other ↦ inr (lists_either (is_lt (listed t.0 u.0)) us a b t.0 u.0 refl t.1 u.1 (λ one.
          let same = one_place [] us a b t.0 u.0 c t.1 u.1 (sym one) in
          elim other [ inl lt ↦ omega (arith, lt, same) | inr gt ↦ omega (arith, gt, same) ]))
    ]
