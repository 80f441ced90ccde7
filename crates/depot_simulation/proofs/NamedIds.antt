-- The ids that references name.
use Rattle.std.proofs.Common.{◌≡◌, ℕ, List, [], ◌∷◌, map, Option, Some, None, option_map, refl, ap, ◌∙◌}
use Rattle.depot_base.specs.declared.update.Dep.{Dep}
use Rattle.depot_base.specs.declared.update.Update.{Update}
use Rattle.depot_model.specs.checks.Own.{entry_of}
use Rattle.depot_model.specs.texts.Texts.{id_of_update}
use Rattle.depot_model.specs.checks.Vouching.{rising}

ids_of_entries : (us : List Update) → map (λ (d : Dep). d.id) (map entry_of us) ≡ map id_of_update us
ids_of_entries [] = refl
ids_of_entries (u ∷ us) = ap (λ (hs : List (List ℕ)). id_of_update u ∷ hs) (ids_of_entries us)

-- entries are of updates: so are the ids that they name, in rising order
pub ids_named : (named : List Dep) (slice : List Dep) (ids sorted : List (List ℕ)) (o : Option (List Update)) → Some named ≡ option_map (λ us. map entry_of us) o → slice ≡ named → ids ≡ map (λ (d : Dep). d.id) slice → sorted ≡ rising ids
    → Some sorted ≡ option_map (λ us. rising (map id_of_update us)) o
ids_named named slice ids sorted None is same are sort = absurd cc
ids_named named slice ids sorted (Some us) is same are sort =
    let entries : named ≡ map entry_of us = cc in
    ap (λ (hs : List (List ℕ)). Some hs) (sort ∙ ap rising (are ∙ ap (map (λ (d : Dep). d.id)) (same ∙ entries) ∙ ids_of_entries us))

pub none_named : (o : Option (List Update)) → None ≡ option_map (λ us. map entry_of us) o → None ≡ option_map (λ us. rising (map id_of_update us)) o
none_named None is = refl
none_named (Some us) is = absurd cc
