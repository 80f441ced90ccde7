-- The order of acceptance, as a test.
use Rattle.std.specs.Prelude.{◌≡◌, ℕ, List, [], ◌∷◌, Bool, true, not, ◌&&◌}
use Rattle.std.specs.List.{list_all}
use Rattle.std.proofs.lemmas.Bool.{and_parts, not-true, both_ways}
use Rattle.depot_base.specs.declared.update.Update.{Update}
use Rattle.depot_model.specs.lists.Lists.{is_among}
use Rattle.depot_model.specs.texts.Texts.{id_of_update}
use Rattle.depot_model.specs.updates.Order.{parents, IsCausal}
use Rattle.depot_model.proofs.lists.Members.{among_from, all_among_to}

-- each parent of each update comes before it, and no id occurs twice; these ids come before them all
abbrev pub is_causal : List (List ℕ) → List Update → Bool
is_causal ids [] = true
is_causal ids (u ∷ us) = list_all (λ h. is_among h ids) (parents u) && (not (is_among (id_of_update u) ids) && is_causal (id_of_update u ∷ ids) us)

-- what passes the test is in the order of acceptance
pub causal_from_test : (ids : List (List ℕ)) (us : List Update) → is_causal ids us ≡ true → IsCausal ids us
unfolding IsCausal
causal_from_test ids [] e = tt
causal_from_test ids (u ∷ us) e =
    let here = and_parts (list_all (λ h. is_among h ids) (parents u)) (not (is_among (id_of_update u) ids) && is_causal (id_of_update u ∷ ids) us) e in
    let behind = and_parts (not (is_among (id_of_update u) ids)) (is_causal (id_of_update u ∷ ids) us) here.1 in (
      all_among_to (parents u) ids here.0,
      (
        (λ was. both_ways (is_among (id_of_update u) ids) (not-true (is_among (id_of_update u) ids) behind.0) (among_from (id_of_update u) ids was)),
        causal_from_test (id_of_update u ∷ ids) us behind.1,
      ),
    )
