-- Updates in rising order of (writer, id): what is put in order has the same members, and two such lists with the same members are one.
use Rattle.std.proofs.Common.{◌≡◌, ℕ, suc, Bool, true, false, cond, List, [], ◌∷◌, length, refl, sym, ap, subst, ◌∙◌, inl, inr, ◌⊎◌}
use Rattle.std.specs.List.{AllByRecursion, filter}
use Rattle.std.specs.Str.{bytes_eq}
use Rattle.std.specs.Ordering.{nat_cmp, is_lt}
use Rattle.std.specs.Cmp.Lexicographic.{slice_cmp}
use Rattle.std.proofs.lemmas.Cmp.{nat_list_cmp_total}
use Rattle.std.proofs.lemmas.Bool.{false_from_ne_true}
use Rattle.std.proofs.lemmas.Slice.Eq.{bytes_eq-Decides}
use Rattle.depot_base.specs.Pairs.{AllPairsByRecursion}
use Rattle.depot_base.specs.declared.update.Update.{Update}
use Rattle.depot_base.proofs.GeneralLaws.{less_is}
use Rattle.depot_model.specs.lists.Lists.{IsIn}
use Rattle.depot_model.specs.texts.Texts.{id_of_update}
use Rattle.depot_model.specs.updates.Order.{IsCausal}
use Rattle.depot_model.specs.updates.History.{is_lower, put_by_id, by_id}
use Rattle.depot_model.proofs.lists.Members.{all_at, all_from, from_filter}
use Rattle.depot_model.proofs.of_updates.Orders.{fresh, causal_behind}
use Rattle.depot_model.proofs.of_updates.ContradictionLaws.{below_or_above}
use Rattle.depot_model.proofs.lists.RisingLists.{RisesByTest, HaveSame, less_one_way, one_rising}

-- ---- lists in the order of (writer, id)

put_cases : (b : Bool) (t x u : Update) (us more : List Update) → IsIn x (cond b (u ∷ more) (t ∷ u ∷ us)) → (IsIn x more → (t ≡ x) ⊎ IsIn x us) → (t ≡ x) ⊎ IsIn x (u ∷ us)
put_cases true t x u us more (inl here) behind = inr (inl here)
put_cases true t x u us more (inr there) behind = elim (behind there) [ inl same ↦ inl same | inr old ↦ inr (inr old) ]
put_cases false t x u us more on behind = on

-- one of a list with one more in its place
pub from_put_by_id : (t x : Update) (us : List Update) → IsIn x (put_by_id t us) → (t ≡ x) ⊎ IsIn x us
unfolding put_by_id
from_put_by_id t x [] on = on
from_put_by_id t x (u ∷ us) on = put_cases (is_lower u t) t x u us (put_by_id t us) on (λ there. from_put_by_id t x us there)

-- and the other way
pub in_put_by_id : (t x : Update) (us : List Update) → (t ≡ x) ⊎ IsIn x us → IsIn x (put_by_id t us)
unfolding put_by_id
in_put_by_id t x [] on = on
in_put_by_id t x (u ∷ us) on = put_choice (is_lower u t) on (λ later. in_put_by_id t x us later) where
  put_choice : (b : Bool) → (t ≡ x) ⊎ IsIn x (u ∷ us) → ((t ≡ x) ⊎ IsIn x us → IsIn x (put_by_id t us)) → IsIn x (cond b (u ∷ put_by_id t us) (t ∷ u ∷ us))
  put_choice true (inl same) behind = inr (behind (inl same))
  put_choice true (inr (inl here)) behind = inl here
  put_choice true (inr (inr there)) behind = inr (behind (inr there))
  put_choice false on behind = on

-- one of a list that is put in order
pub from_by_id : (x : Update) (us : List Update) → IsIn x (by_id us) → IsIn x us
unfolding by_id
from_by_id x [] on = on
from_by_id x (u ∷ us) on = elim (from_put_by_id u x (by_id us) on) [ inl here ↦ inl here | inr there ↦ inr (from_by_id x us there) ]

-- and the other way
pub in_by_id : (x : Update) (us : List Update) → IsIn x us → IsIn x (by_id us)
unfolding by_id
in_by_id x [] never = never
in_by_id x (u ∷ us) (inl here) = in_put_by_id u x (by_id us) (inl here)
in_by_id x (u ∷ us) (inr there) = in_put_by_id u x (by_id us) (inr (in_by_id x us there))

-- ---- one lower than another

pub lower_trans : (t u v : Update) → is_lower t u ≡ true → is_lower u v ≡ true → is_lower t v ≡ true
lower_trans t u v one two = ap is_lt (nat_list_cmp_total.trans (t.writer ∷ id_of_update t) (u.writer ∷ id_of_update u) (v.writer ∷ id_of_update v) (less_is _ one) (less_is _ two))

pub lower_or_above : (t u : Update) → is_lower u t ≡ false → (id_of_update u ≡ id_of_update t → ⊥) → is_lower t u ≡ true
lower_or_above t u not_lower other =
    let differs : bytes_eq (u.writer ∷ id_of_update u) (t.writer ∷ id_of_update t) ≡ false = false_from_ne_true _ (λ e. let same = (bytes_eq-Decides (u.writer ∷ id_of_update u) (t.writer ∷ id_of_update t)).0 e in other cc) in
    below_or_above (u.writer ∷ id_of_update u) (t.writer ∷ id_of_update t) not_lower differs

-- ---- ids that differ

-- no id occurs twice
abbrev pub HaveOwnIds : List Update → Type 0
HaveOwnIds = AllPairsByRecursion (λ t u. id_of_update u ≡ id_of_update t → ⊥)

-- where each parent comes before its children, no id occurs twice
pub own_ids_from_causal : (ids : List (List ℕ)) (us : List Update) → IsCausal ids us → HaveOwnIds us
own_ids_from_causal ids [] c = tt
own_ids_from_causal ids (x ∷ xs) c =
    let behind = causal_behind ids x xs c in
    (all_from (λ (u : Update). id_of_update u ≡ id_of_update x → ⊥) xs (λ u on e. fresh (id_of_update x ∷ ids) xs u behind on (inl (sym e))), own_ids_from_causal (id_of_update x ∷ ids) xs behind)

-- nor in what is left of them
pub own_ids_filter : (test : Update → Bool) (us : List Update) → HaveOwnIds us → HaveOwnIds (filter test us)
own_ids_filter test [] apart = tt
own_ids_filter test (x ∷ xs) apart = choice (test x) (own_ids_filter test xs apart.1) where
  choice : (b : Bool) → HaveOwnIds (filter test xs) → HaveOwnIds (cond b (x ∷ filter test xs) (filter test xs))
  choice true rest = (all_from (λ (u : Update). id_of_update u ≡ id_of_update x → ⊥) (filter test xs) (λ u on. all_at (λ (u : Update). id_of_update u ≡ id_of_update x → ⊥) xs u apart.0 (from_filter test u xs on).0), rest)
  choice false rest = rest

-- ---- rising order

-- each is lower than all that come after it
abbrev pub Rises : List Update → Type 0
Rises us = RisesByTest is_lower us

-- one with an id of its own leaves them rising
pub rises_put : (t : Update) (us : List Update) → Rises us → AllByRecursion (λ (u : Update). id_of_update u ≡ id_of_update t → ⊥) us → Rises (put_by_id t us)
unfolding put_by_id
rises_put t [] rise other = (tt, tt)
rises_put t (u ∷ us) rise other = choice (is_lower u t) refl (rises_put t us rise.1 other.1) where
  choice : (b : Bool) → is_lower u t ≡ b → Rises (put_by_id t us) → Rises (cond b (u ∷ put_by_id t us) (t ∷ u ∷ us))
  choice true is rest = (
    all_from (λ (x : Update). is_lower u x ≡ true) (put_by_id t us) (λ x on. elim (from_put_by_id t x us on) [
      | inl same ↦ subst (λ (y : Update). is_lower u y ≡ true) same is
      | inr old ↦ all_at (λ (x : Update). is_lower u x ≡ true) us x rise.0 old
    ]),
    rest,
  )
  choice false is rest =
      let lower = lower_or_above t u is other.0 in
      ((lower, all_from (λ (x : Update). is_lower t x ≡ true) us (λ x on. lower_trans t u x lower (all_at (λ (x : Update). is_lower u x ≡ true) us x rise.0 on))), rise)

-- updates in their order rise, where no id occurs twice
pub rises_by_id : (us : List Update) → HaveOwnIds us → Rises (by_id us)
unfolding by_id
rises_by_id [] apart = tt
rises_by_id (t ∷ ts) apart = rises_put t (by_id ts) (rises_by_id ts apart.1) (all_from (λ (u : Update). id_of_update u ≡ id_of_update t → ⊥) (by_id ts) (λ u on. all_at (λ (u : Update). id_of_update u ≡ id_of_update t → ⊥) ts u apart.0 (from_by_id u ts on)))

-- no two updates are each lower than the other
lower_one_way : (t u : Update) → is_lower t u ≡ true → is_lower u t ≡ true → ⊥
lower_one_way t u one two = less_one_way (slice_cmp nat_cmp (u.writer ∷ id_of_update u) (t.writer ∷ id_of_update t)) (slice_cmp nat_cmp (t.writer ∷ id_of_update t) (u.writer ∷ id_of_update u)) (nat_list_cmp_total.antisymm (u.writer ∷ id_of_update u) (t.writer ∷ id_of_update t)) one two

-- two lists with the same members are put in one order, where no id occurs twice in either
pub same_by_id : (us vs : List Update) → HaveOwnIds us → HaveOwnIds vs → HaveSame us vs → by_id us ≡ by_id vs
same_by_id us vs apart_u apart_v same = one_rising is_lower (by_id us) (by_id vs) lower_one_way (rises_by_id us apart_u) (rises_by_id vs apart_v) (record {
  to = λ t on. in_by_id t vs (same.to t (from_by_id t us on));
  back = λ t on. in_by_id t us (same.back t (from_by_id t vs on));
})

-- what is put in order has as many members
pub put_length : (t : Update) (us : List Update) → length (put_by_id t us) ≡ suc (length us)
unfolding put_by_id
put_length t [] = refl
put_length t (u ∷ us) = by_test (is_lower u t) (put_length t us) where
  by_test : (b : Bool) → length (put_by_id t us) ≡ suc (length us) → length (cond b (u ∷ put_by_id t us) (t ∷ u ∷ us)) ≡ suc (suc (length us))
  by_test true rest = ap suc rest
  by_test false rest = refl

pub by_id_length : (us : List Update) → length (by_id us) ≡ length us
unfolding by_id
by_id_length [] = refl
by_id_length (t ∷ ts) = put_length t (by_id ts) ∙ ap suc (by_id_length ts)
