use Rattle.std.proofs.Common.{◌≡◌, true, take}
use Rattle.std.specs.List.{list_all}
use Rattle.depot_world.specs.Summaries.{agrees}
use Rattle.depot_world.proofs.agreement.agree.Given as goal

abbrev pub invariant-loop-line : goal.invariant-loop-line
invariant-loop-line l = list_all (agrees l.lines) (take l.line-index l.lines) ≡ true
