use Rattle.depot_queries.proofs.HeldNames.{held_is, held_is_other, held_is_none}
use Rattle.depot_queries.proofs.held_values.held_as.Goals as goal
use Rattle.depot_queries.proofs.held_values.held_as.Goals.{in_default-via-in-Some+else-value-name, in_default-via-in_default}

pub returns-in-Some : goal.returns-in-Some
returns-in-Some g c = held_is c.args.readings.now.records c.args.name.now _ c.in-Some.ensures c.if-value-name.true

pub returns-in_default : goal.returns-in_default
returns-in_default g c = elim c.in_default.branch [
  | in_default-via-in-Some+else-value-name w ↦ held_is_other c.args.readings.now.records c.args.name.now w.in-Some.value.now w.in-Some.ensures w.if-value-name.false
  | in_default-via-in_default w ↦ held_is_none c.args.readings.now.records c.args.name.now w.in_default.ensures
]
