use Rattle.std.proofs.Common.{◌≡◌, ◌++◌}
use Rattle.depot_kept.specs.Table.{places_with_mark}
use Rattle.depot_kept.specs.PlacesLeft.{left}
use Rattle.depot_kept.specs.Firsts.{IsFirstOf}
use Rattle.depot_kept.proofs.firsts.first_under.Given as goal

abbrev pub invariant-loop-place : goal.invariant-loop-place
invariant-loop-place l = record { first : IsFirstOf l.entries l.yielded l.statement l.first; whole : l.yielded ++ left l.place-iterator ≡ places_with_mark l.table l.mark }
