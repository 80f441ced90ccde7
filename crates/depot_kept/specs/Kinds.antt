-- How two updates of one writer with different bodies and numbers contradict each other.
use Rattle.std.specs.Prelude.{Option, [], ◌∷◌, ◌||◌}
use Rattle.std.specs.Str.{bytes_eq}
use Rattle.depot_base.specs.declared.update.Update.{Update}
use Rattle.depot_base.specs.declared.proof.Kind.{Kind}
use Rattle.depot_base.specs.declared.proof.Kind.TheVariants.{SamePrev, Backward}
use Rattle.depot_model.specs.lists.Lists.{when, first}
use Rattle.depot_model.specs.updates.Contradictions.{goes_back}

-- the first kind but that of the number
abbrev pub kind_by_prev : Update → Update → Option Kind
kind_by_prev t u = first (when (bytes_eq t.prev u.prev) SamePrev ∷ when (goes_back t u || goes_back u t) Backward ∷ [])
