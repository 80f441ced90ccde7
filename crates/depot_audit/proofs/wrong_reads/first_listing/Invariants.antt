use Rattle.std.proofs.Common.{◌≡◌, map, take, None}
use Rattle.depot_audit.specs.Lookups.{nodes_in, first_unput}
use Rattle.depot_audit.proofs.wrong_reads.first_listing.Given as goal

abbrev pub invariant-loop-trace : goal.invariant-loop-trace
invariant-loop-trace l = first_unput l.met.updates.table (nodes_in (map (λ t. t.now) l.traces)) (map (λ t. t.now) (take l.trace-index l.traces)) ≡ None
