-- What holds of each kind of check of an update's content holds of the first that fails.
use Rattle.std.proofs.Common.{◌≡◌, ℕ, suc, ◌&&◌, ◌||◌, not, eqb, List, [], ◌∷◌, Some, None, subst}
use Rattle.std.specs.Prelude.{Option, nat_le}
use Rattle.std.specs.List.{AllByRecursion}
use Rattle.depot_base.specs.declared.check.Check.{Check}
use Rattle.depot_base.specs.declared.check.Check.TheVariants as check
use Rattle.depot_base.specs.declared.update.Dep.{Dep}
use Rattle.depot_base.specs.declared.update.Update.{Update}
use Rattle.depot_model.specs.checks.Checks.{Sight, lost, wrong_prev, wrong_entry, wrong_entries, behind, not_above, content_checks}
use Rattle.depot_model.proofs.lists.FirstLaws.{Shows, shows_when, shows_map, shows_append, shows_first}

-- it holds of each kind of check of the content
pub record HoldsOfContent (P : Check → Type 0) : Type 0 where
  pub missing : (h : List ℕ) → P (check.Missing h)
  pub wrong_dep : (place : ℕ) → P (check.WrongDep place)
  pub backward : (h : List ℕ) → P (check.Backward h)
  pub clock_low : (h : List ℕ) → P (check.ClockLow h)
  pub clock_far : (greatest : ℕ) → P (check.ClockFar greatest)
  pub history : (given right : List ℕ) → P (check.BadHistory given right)

-- ---- the checks of the content

shows_lost : (P : Check → Type 0) → HoldsOfContent P → (h : List ℕ) (o : Option Update) → Shows P (lost h o)
shows_lost P all h None = λ c e. let same : check.Missing h ≡ c = cc in subst P same (all.missing h)
shows_lost P all h (Some t) = λ c e. absurd cc

shows_wrong_prev : (P : Check → Type 0) → HoldsOfContent P → (u : Update) (o : Option Update) → Shows P (wrong_prev u o)
shows_wrong_prev P all u None = λ c e. absurd cc
shows_wrong_prev P all u (Some t) = shows_when P (not (eqb t.writer u.writer)) (check.WrongDep 0) (all.wrong_dep 0)

shows_wrong_entry : (P : Check → Type 0) → HoldsOfContent P → (place : ℕ) (d : Dep) (o : Option Update) → Shows P (wrong_entry place d o)
shows_wrong_entry P all place d None = λ c e. absurd cc
shows_wrong_entry P all place d (Some t) = shows_when P (not (eqb t.writer d.writer && eqb t.clock d.clock)) (check.WrongDep place) (all.wrong_dep place)

shows_wrong_entries : (P : Check → Type 0) → HoldsOfContent P → (place : ℕ) (es : List (Dep × Option Update)) → AllByRecursion (Shows P) (wrong_entries place es)
shows_wrong_entries P all place [] = tt
shows_wrong_entries P all place (e ∷ es) = (shows_wrong_entry P all place e.0 e.1, shows_wrong_entries P all (suc place) es)

shows_behind : (P : Check → Type 0) → HoldsOfContent P → (u : Update) (o : Option Update) → Shows P (behind u o)
shows_behind P all u None = λ c e. absurd cc
shows_behind P all u (Some t) = shows_when P (nat_le u.seq t.seq || nat_le u.clock t.clock) (check.Backward u.prev) (all.backward u.prev)

shows_not_above : (P : Check → Type 0) → HoldsOfContent P → (u : Update) (h : List ℕ) (o : Option Update) → Shows P (not_above u h o)
shows_not_above P all u h None = λ c e. absurd cc
shows_not_above P all u h (Some t) = shows_when P (nat_le u.clock t.clock) (check.ClockLow h) (all.clock_low h)

pub shows_content : (P : Check → Type 0) → HoldsOfContent P → (u : Update) (seen : Sight) → AllByRecursion (Shows P) (content_checks u seen)
unfolding content_checks
shows_content P all u seen = (
  shows_first P _ (shows_append P _ _ (shows_map P (lost u.prev) seen.before (shows_lost P all u.prev)) (shows_map P (λ (x : Dep × Option Update). lost x.0.id x.1) seen.entries (λ x. shows_lost P all x.0.id x.1))),
  (
    shows_first P _ (shows_append P _ _ (shows_map P (wrong_prev u) seen.before (shows_wrong_prev P all u)) (shows_wrong_entries P all 1 seen.entries)),
    (
      shows_first P _ (shows_map P (behind u) seen.before (shows_behind P all u)),
      (
        shows_first P _ (shows_append P _ _ (shows_map P (not_above u u.prev) seen.before (shows_not_above P all u u.prev)) (shows_map P (λ (x : Dep × Option Update). not_above u x.0.id x.1) seen.entries (λ x. shows_not_above P all u x.0.id x.1))),
        (shows_when P _ _ (all.clock_far _), (shows_when P _ _ (all.history u.history seen.history), tt)),
      ),
    ),
  ),
)
