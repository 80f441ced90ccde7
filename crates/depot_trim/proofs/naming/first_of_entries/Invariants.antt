use Rattle.std.proofs.Common.{◌≡◌, map, take}
use Rattle.depot_model.specs.lists.Lists.{is_among}
use Rattle.depot_trim.specs.MarkedNames.{first_place}
use Rattle.depot_trim.proofs.naming.first_of_entries.Given as goal

abbrev pub invariant-loop-dep : goal.invariant-loop-dep
invariant-loop-dep l = l.first ≡ first_place (λ m. is_among m.id (map (λ d. d.id) (take l.dep-index l.deps))) l.marks.list.items
