-- Updates of which each comes after its prev, and of which no two have one id.
use Rattle.std.specs.Prelude.{◌≡◌, List, ◌∷◌, ◌++◌}
use Rattle.depot_base.specs.Zeros.{zeros}
use Rattle.depot_base.specs.declared.update.Update.{Update}
use Rattle.depot_model.specs.lists.Lists.{IsIn}
use Rattle.depot_model.specs.texts.Texts.{id_of_update}
use Rattle.depot_model.specs.updates.Chains.{HasPrev}

-- the prev of each, where it names one, comes before it
abbrev pub PrevsComeFirst : List Update → Type 0
PrevsComeFirst us = (before : List Update) (u : Update) (after : List Update)
    → us ≡ before ++ u ∷ after → (u.prev ≡ zeros → ⊥) → HasPrev before u

-- none that comes before another has its id
abbrev pub StandApart : List Update → Type 0
StandApart us = (before : List Update) (u : Update) (after : List Update)
    → us ≡ before ++ u ∷ after → (t : Update) → IsIn t before → id_of_update t ≡ id_of_update u → ⊥
