use Rattle.std.proofs.Common.{◌≡◌, take}
use Rattle.std.specs.BTreeMap.{get}
use Rattle.depot_trim.specs.declared.marks.Name.{Name}
use Rattle.depot_trim.specs.MarkedNames.{name_cmp, has_name, first_place}
use Rattle.depot_trim.proofs.marked_names.firsts_of.Given as goal

abbrev pub invariant-loop-place : goal.invariant-loop-place
invariant-loop-place l = (n : Name) → get name_cmp l.firsts n ≡ first_place (λ m. has_name m n) (take l.place l.marks)
