use Rattle.std.proofs.Common.{◌≡◌, map, take, None}
use Rattle.std.specs.Prelude.{position}
use Rattle.depot_audit.specs.Lookups.{nodes_in, lists_unput}
use Rattle.depot_audit.proofs.wrong_reads.first_place.Given as goal

abbrev pub invariant-loop-place : goal.invariant-loop-place
invariant-loop-place l = position (lists_unput l.met.updates.table (nodes_in (map (λ t. t.now) l.traces))) (take l.place l.reads) ≡ None
