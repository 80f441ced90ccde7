-- The entries that name updates in rising order of (writer, id).
use Rattle.std.proofs.Common.{◌≡◌, ℕ, Bool, true, false, ◌&&◌, ◌||◌, cond, eqb, List, [], ◌∷◌, ◌++◌, map, Some, refl, inl, inr}
use Rattle.std.specs.Ordering.{is_lt, ordering_then}
use Rattle.std.specs.declared.cmp.Ordering.{Ordering}
use Rattle.std.specs.declared.cmp.Ordering.TheVariants.{Less, Equal, Greater}
use Rattle.depot_base.specs.Format.{Follows, last_of}
use Rattle.depot_base.specs.Parts.{dep, dep_above, dep_rises}
use Rattle.depot_base.specs.declared.update.Update.{Update}
use Rattle.depot_base.specs.declared.update.Dep.{Dep}
use Rattle.depot_model.specs.lists.Lists.{IsIn}
use Rattle.depot_model.specs.updates.History.{is_lower}
use Rattle.depot_model.specs.checks.Own.{entry_of}
use Rattle.depot_model.proofs.lists.Members.{all_at}
use Rattle.depot_model.proofs.lists.RisingUpdates.{Rises}
use Rattle.depot_base.proofs.EntryLists.{last_pushed}

pub then_lower : (less same : Bool) (o : Ordering) → is_lt (ordering_then (cond less Less (cond same Equal Greater)) o) ≡ true → (less || (same && is_lt o)) ≡ true
then_lower true same o e = refl
then_lower false true o e = e
then_lower false false o e = absurd cc

entry_above : (t u : Update) → is_lower t u ≡ true → dep_above (Some (entry_of t)) (entry_of u) ≡ true
entry_above t u e = then_lower _ _ _ e

-- The entries that name rising updates follow one another, where each fits and is another writer's.
pub entries_follow : (me : ℕ) (front : List Dep) (us : List Update) → Rises us → ((u : Update) → IsIn u us → dep_above (last_of front) (entry_of u) ≡ true) → ((u : Update) → IsIn u us → dep.fits (entry_of u)) → ((u : Update) → IsIn u us → eqb u.writer me ≡ false)
    → Follows dep (dep_rises me) front (map entry_of us)
entries_follow me front [] rise above fit other = tt
entries_follow me front (u ∷ us) rise above fit other =
    let rises : dep_rises me (last_of front) (entry_of u) ≡ true = rw (other u (inl refl)) (above u (inl refl)) in
    let behind : (x : Update) → IsIn x us → dep_above (last_of (front ++ entry_of u ∷ [])) (entry_of x) ≡ true = λ x on. rw (last_pushed front (entry_of u)) (entry_above u x (all_at (λ (y : Update). is_lower u y ≡ true) us x rise.0 on)) in
    (fit u (inl refl), rises, entries_follow me (front ++ entry_of u ∷ []) us rise.1 behind (λ x on. fit x (inr on)) (λ x on. other x (inr on)))
