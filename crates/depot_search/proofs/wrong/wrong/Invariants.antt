use Rattle.std.proofs.Common.{◌≡◌, drop, map}
use Rattle.depot_search.specs.Read.{wrong_among}
use Rattle.depot_search.proofs.wrong.wrong.Given as goal

abbrev pub invariant-loop-journal : goal.invariant-loop-journal
invariant-loop-journal l = wrong_among l.journals l.writes (map (λ r. r.items) l.table) (drop l.journal-index l.journals) ≡ wrong_among l.journals l.writes (map (λ r. r.items) l.table) l.journals
