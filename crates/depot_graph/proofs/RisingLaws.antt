-- Lists that rise in the listed order.
use Rattle.std.proofs.Common.{◌≡◌, List, [], ◌∷◌, Bool, true, false, cond, filter, refl, inl, inr, ◌⊎◌}
use Rattle.std.specs.List.{AllByRecursion}
use Rattle.std.specs.Ordering.{is_lt}
use Rattle.depot_base.specs.declared.update.Update.{Update}
use Rattle.depot_model.specs.lists.Lists.{IsIn}
use Rattle.depot_model.specs.texts.Texts.{id_of_update}
use Rattle.depot_model.specs.updates.Order.{listed, RisesStrictly}
use Rattle.depot_model.proofs.of_updates.LatestLaws.{listed_trans, listed_back}

-- u put before the first before which it comes
unfoldable pub put_listed : Update → List Update → List Update
put_listed u [] = u ∷ []
put_listed u (t ∷ ts) = cond (is_lt (listed u t)) (u ∷ t ∷ ts) (t ∷ put_listed u ts)

-- ---- putting one in

abbrev IsBelow : Update → Update → Type 0
IsBelow t v = is_lt (listed t v) ≡ true

all_below : (u t : Update) (ts : List Update) → IsBelow u t → AllByRecursion (λ v. IsBelow t v) ts → AllByRecursion (λ v. IsBelow u v) ts
all_below u t [] p all = tt
all_below u t (v ∷ ts) p all = (listed_trans u t v p all.0, all_below u t ts p all.1)

all_put : (t u : Update) (ts : List Update) → IsBelow t u → AllByRecursion (λ v. IsBelow t v) ts → AllByRecursion (λ v. IsBelow t v) (put_listed u ts)
unfolding put_listed
all_put t u [] p all = (p, tt)
all_put t u (v ∷ vs) p all = elim (is_lt (listed u v)) as (λ b. AllByRecursion (λ v. IsBelow t v) (cond b (u ∷ v ∷ vs) (v ∷ put_listed u vs))) [
  | true ↦ (p, all)
  | false ↦ (all.0, all_put t u vs p all.1)
]

rises_chosen : (b : Bool) (u t : Update) (ts : List Update) → is_lt (listed u t) ≡ b → RisesStrictly (t ∷ ts) → (id_of_update t ≡ id_of_update u → ⊥) → (IsBelow t u → AllByRecursion (λ v. IsBelow t v) (put_listed u ts))
    → RisesStrictly (put_listed u ts) → RisesStrictly (cond b (u ∷ t ∷ ts) (t ∷ put_listed u ts))
rises_chosen true u t ts e r ne more put = ((e, all_below u t ts e r.0), r)
rises_chosen false u t ts e r ne more put = (more (listed_back u t e ne), put)

-- one with an id of its own leaves it rising
pub rises_put : (u : Update) (ts : List Update) → RisesStrictly ts → ((t : Update) → IsIn t ts → id_of_update t ≡ id_of_update u → ⊥) → RisesStrictly (put_listed u ts)
unfolding put_listed
rises_put u [] r differs = (tt, tt)
rises_put u (t ∷ ts) r differs = rises_chosen (is_lt (listed u t)) u t ts refl r (differs t (inl refl)) (λ p. all_put t u ts p r.0) (rises_put u ts r.1 (λ v on. differs v (inr on)))

-- what is in it then
pub in_put : (t u : Update) (ts : List Update) → IsIn t (put_listed u ts) → (u ≡ t) ⊎ IsIn t ts
unfolding put_listed
in_put t u [] (inl here) = inl here
in_put t u [] (inr never) = absurd never
in_put t u (v ∷ vs) on = chosen (is_lt (listed u v)) on (in_put t u vs) where
  chosen : (b : Bool) → IsIn t (cond b (u ∷ v ∷ vs) (v ∷ put_listed u vs)) → (IsIn t (put_listed u vs) → (u ≡ t) ⊎ IsIn t vs) → (u ≡ t) ⊎ IsIn t (v ∷ vs)
  chosen true (inl here) rest = inl here
  chosen true (inr there) rest = inr there
  chosen false (inl here) rest = inr (inl here)
  chosen false (inr there) rest = elim (rest there) [ inl same ↦ inl same | inr old ↦ inr (inr old) ]

pub put_here : (u : Update) (ts : List Update) → IsIn u (put_listed u ts)
unfolding put_listed
put_here u [] = inl refl
put_here u (v ∷ vs) = elim (is_lt (listed u v)) as (λ b. IsIn u (cond b (u ∷ v ∷ vs) (v ∷ put_listed u vs))) [
  | true ↦ inl refl
  | false ↦ inr (put_here u vs)
]

pub put_keeps : (t u : Update) (ts : List Update) → IsIn t ts → IsIn t (put_listed u ts)
unfolding put_listed
put_keeps t u [] never = absurd never
put_keeps t u (v ∷ vs) on = elim (is_lt (listed u v)) as (λ b. IsIn t (cond b (u ∷ v ∷ vs) (v ∷ put_listed u vs))) [
  | true ↦ inr on
  | false ↦ elim on [ inl here ↦ inl here | inr there ↦ inr (put_keeps t u vs there) ]
]

-- ---- leaving some out

all_filtered : (P : Update → Type 0) (test : Update → Bool) (ts : List Update) → AllByRecursion P ts → AllByRecursion P (filter test ts)
all_filtered P test [] all = tt
all_filtered P test (t ∷ ts) all = elim (test t) as (λ b. AllByRecursion P (cond b (t ∷ filter test ts) (filter test ts))) [
  | true ↦ (all.0, all_filtered P test ts all.1)
  | false ↦ all_filtered P test ts all.1
]

pub rises_filtered : (test : Update → Bool) (ts : List Update) → RisesStrictly ts → RisesStrictly (filter test ts)
rises_filtered test [] r = tt
rises_filtered test (t ∷ ts) r = elim (test t) as (λ b. RisesStrictly (cond b (t ∷ filter test ts) (filter test ts))) [
  | true ↦ (all_filtered (λ v. IsBelow t v) test ts r.0, rises_filtered test ts r.1)
  | false ↦ rises_filtered test ts r.1
]
