-- The checks of an update's content, one after another.
use Rattle.std.proofs.Common.{◌≡◌, List, [], ◌∷◌, ◌++◌, map, Some, None, refl, sym, ◌∙◌}
use Rattle.std.specs.Prelude.{Option}
use Rattle.depot_base.specs.declared.check.Check.{Check}
use Rattle.depot_base.specs.declared.update.Update.{Update}
use Rattle.depot_model.specs.lists.Lists.{first}
use Rattle.depot_model.specs.journals.Journal.{prev_of}
use Rattle.depot_model.specs.checks.Checks.{Sight, sight, content_checks, missing, wrong_prev, wrong_entries, wrong_dep, behind, backward, clock_low, clock_far, bad_history}
use Rattle.depot_accept.specs.Content.{checks_of_parents}
use Rattle.depot_accept.proofs.FirstFound.{first_front, first_behind, first_one, first_now, first_later}
use Rattle.depot_accept.proofs.NamedUpdates.{first_prev}

-- ---- the prev before the entries

-- the prev is another writer's
pub wrong_in_prev : (us : List Update) (u : Update) (c : Check) → wrong_prev u (prev_of us u.prev) ≡ Some c → wrong_dep u (sight us u) ≡ Some c
wrong_in_prev us u c e = first_front (map (wrong_prev u) (sight us u).before) (wrong_entries 1 (sight us u).entries) c (first_prev (wrong_prev u) us u refl ∙ e)

-- it isn't, and the entries are looked at
pub wrong_in_entry : (us : List Update) (u : Update) → wrong_prev u (prev_of us u.prev) ≡ None → wrong_dep u (sight us u) ≡ first (wrong_entries 1 (sight us u).entries)
wrong_in_entry us u e = first_behind (map (wrong_prev u) (sight us u).before) (wrong_entries 1 (sight us u).entries) (first_prev (wrong_prev u) us u refl ∙ e)

-- a check of the prev alone
pub only_prev : (us : List Update) (u : Update) (o : Option Check) → o ≡ behind u (prev_of us u.prev) → o ≡ backward u (sight us u)
only_prev us u o e = e ∙ sym (first_prev (behind u) us u refl)

-- ---- the checks of the parents

-- the checks from each on
abbrev from_low : Update → Sight → List (Option Check)
from_low u seen = clock_low u seen ∷ clock_far u seen ∷ []

abbrev from_backward : Update → Sight → List (Option Check)
from_backward u seen = backward u seen ∷ from_low u seen

-- the prev or an entry is wrong
pub fails_wrong : (u : Update) (seen : Sight) (c : Check) → Some c ≡ wrong_dep u seen → Some c ≡ first (checks_of_parents u seen)
unfolding checks_of_parents
fails_wrong u seen c e = first_now (wrong_dep u seen) (from_backward u seen) c e

-- none is wrong, and the update steps back
pub fails_backward : (u : Update) (seen : Sight) (c : Check) → None ≡ wrong_dep u seen → Some c ≡ backward u seen → Some c ≡ first (checks_of_parents u seen)
unfolding checks_of_parents
fails_backward u seen c right e = first_later (wrong_dep u seen) (from_backward u seen) (Some c) right (first_now (backward u seen) (from_low u seen) c e)

-- it doesn't, and its clock is too low
pub fails_low : (u : Update) (seen : Sight) (c : Check) → None ≡ wrong_dep u seen → None ≡ backward u seen → Some c ≡ clock_low u seen → Some c ≡ first (checks_of_parents u seen)
unfolding checks_of_parents
fails_low u seen c right ahead e =
    first_later (wrong_dep u seen) (from_backward u seen) (Some c) right
    (first_later (backward u seen) (from_low u seen) (Some c) ahead
    (first_now (clock_low u seen) (clock_far u seen ∷ []) c e))

-- it isn't too low, and the last of these checks is left
pub fails_far : (u : Update) (seen : Sight) (r : Option Check) → None ≡ wrong_dep u seen → None ≡ backward u seen → None ≡ clock_low u seen → r ≡ clock_far u seen → r ≡ first (checks_of_parents u seen)
unfolding checks_of_parents
fails_far u seen r right ahead above e =
    first_later (wrong_dep u seen) (from_backward u seen) r right
    (first_later (backward u seen) (from_low u seen) r ahead
    (first_later (clock_low u seen) (clock_far u seen ∷ []) r above (e ∙ sym (first_one (clock_far u seen)))))

-- ---- all checks

-- a parent is missing
pub fails_missing : (u : Update) (seen : Sight) (c : Check) → missing u seen ≡ Some c → first (content_checks u seen) ≡ Some c
unfolding content_checks checks_of_parents
fails_missing u seen c e = sym (first_now (missing u seen) (checks_of_parents u seen ++ bad_history u seen ∷ []) c (sym e))

-- none is, and another check of the parents fails
pub fails_by_parents : (u : Update) (seen : Sight) (c : Check) → missing u seen ≡ None → first (checks_of_parents u seen) ≡ Some c → first (content_checks u seen) ≡ Some c
unfolding content_checks checks_of_parents
fails_by_parents u seen c here e =
    sym (first_later (missing u seen) (checks_of_parents u seen ++ bad_history u seen ∷ []) (Some c) (sym here) (sym (first_front (checks_of_parents u seen) (bad_history u seen ∷ []) c e)))

-- none of them fails, and the history is left
pub fails_last : (u : Update) (seen : Sight) → missing u seen ≡ None → first (checks_of_parents u seen) ≡ None → bad_history u seen ≡ first (content_checks u seen)
unfolding content_checks checks_of_parents
fails_last u seen here e =
    first_later (missing u seen) (checks_of_parents u seen ++ bad_history u seen ∷ []) (bad_history u seen) (sym here)
    (sym (first_behind (checks_of_parents u seen) (bad_history u seen ∷ []) e ∙ first_one (bad_history u seen)))
