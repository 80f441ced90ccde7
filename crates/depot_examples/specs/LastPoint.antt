-- What a judge looks at last.
use Rattle.std.specs.Prelude.{◌≡◌, List, [], ◌∷◌, ◌++◌, not, Option}
use Rattle.depot_base.specs.Shown.{kind_shown}
use Rattle.depot_base.specs.declared.key.RosterEntry.{RosterEntry}
use Rattle.depot_base.specs.declared.proof.Proof.{Proof}
use Rattle.depot_model.specs.updates.Judgement.{is_contrary, points}
use Rattle.depot_model.specs.lists.Lists.{when}
use Rattle.depot_model.specs.texts.Roster.{Verifies}
use Rattle.depot_model.specs.declared.judgement.JudgeError.{JudgeError}
use Rattle.depot_model.specs.declared.judgement.JudgeError.TheVariants as point

-- the last of a proof's points is that it is contrary
abbrev pub EndsContrary : Verifies → List RosterEntry → Proof → Type 0
EndsContrary verifies r p = (before : List (Option JudgeError)) × (points verifies r p ≡ before ++ when (not (is_contrary p)) (point.NotContradictory (kind_shown p)) ∷ [])
