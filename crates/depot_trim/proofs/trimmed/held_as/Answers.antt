use Rattle.std.proofs.Common.{◌∙◌}
use Rattle.depot_trim.proofs.ReaderValues.{held_is, held_is_other, held_is_none}
use Rattle.depot_trim.proofs.trimmed.held_as.Goals as goal
use Rattle.depot_trim.proofs.trimmed.held_as.Goals.{in_default-via-in-Some+else-value-name, in_default-via-in_default}

pub returns-in-Some : goal.returns-in-Some
returns-in-Some c = λ held are. held_is held c.args.name.now _ (c.in-Some.ensures.value ∙ are c.args.name.now.hash) c.if-value-name.true

pub returns-in_default : goal.returns-in_default
returns-in_default c = λ held are. elim c.in_default.branch [
  | in_default-via-in-Some+else-value-name w ↦ held_is_other held c.args.name.now w.in-Some.value.now (w.in-Some.ensures.value ∙ are c.args.name.now.hash) w.if-value-name.false
  | in_default-via-in_default w ↦ held_is_none held c.args.name.now (w.in_default.ensures.value ∙ are c.args.name.now.hash)
]
