use Rattle.std.proofs.Common.{◌≡◌, ◌++◌}
use Rattle.depot_kept.specs.Table.{places_with_mark}
use Rattle.depot_kept.specs.PlacesLeft.{left}
use Rattle.depot_kept.proofs.KeepLaws.{number_of}
use Rattle.depot_kept.proofs.HoldLaws.{HasNone}
use Rattle.depot_kept.proofs.seen_statements.SeenStatements.holds.Given as goal

abbrev pub invariant-loop-place : goal.invariant-loop-place
invariant-loop-place l = record { none : HasNone l.self-inside.entries.items l.statement l.yielded; whole : l.yielded ++ left l.place-iterator ≡ places_with_mark l.self-inside.table (number_of l.statement) }
