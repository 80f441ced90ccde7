use Rattle.std.proofs.Common.{map, take}
use Rattle.depot_traces.specs.SeenTraces.{trace_of}
use Rattle.depot_audit.proofs.TurnLaws.{AreSoFar}
use Rattle.depot_audit.proofs.in_turn.look_at_all.Given as goal

abbrev pub invariant-loop-trace : goal.invariant-loop-trace
invariant-loop-trace g l = AreSoFar g.S.Scheme.verifies l.roster (map (λ t. trace_of t.now) (take l.trace-index l.traces)) l.wrong
