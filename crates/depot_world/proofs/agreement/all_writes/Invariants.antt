use Rattle.std.proofs.Common.{◌≡◌, map, take}
use Rattle.std.specs.List.{filter_map}
use Rattle.depot_world.specs.Summaries.{writes_under}
use Rattle.depot_world.proofs.agreement.all_writes.Given as goal

abbrev pub invariant-loop-line : goal.invariant-loop-line
invariant-loop-line l = map (λ writes. writes.now) l.list.items ≡ filter_map (writes_under l.key) (take l.line-index l.lines)
