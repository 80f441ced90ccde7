use Rattle.std.proofs.Common.{◌≡◌, map, take}
use Rattle.depot_model.specs.checks.Own.{write_of}
use Rattle.depot_scenario.proofs.drafts.writes_of.Given as goal

abbrev pub invariant-loop-change : goal.invariant-loop-change
invariant-loop-change l = l.writes ≡ map write_of (take l.change-index l.changes)
