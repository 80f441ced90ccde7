use Rattle.std.proofs.Common.{◌≡◌, drop, map}
use Rattle.depot_search.specs.Read.{first_inexact}
use Rattle.depot_search.proofs.wrong.first_inexact.Given as goal

abbrev pub invariant-loop-place : goal.invariant-loop-place
invariant-loop-place l =
    first_inexact l.journals l.writes (map (λ r. r.items) l.table) l.journal.entries l.place (drop l.place l.journal.reads.now) ≡ first_inexact l.journals l.writes (map (λ r. r.items) l.table) l.journal.entries 0 l.journal.reads.now
