use Rattle.depot_traces.specs.SeenTraces.{trace_of}
use Rattle.depot_audit.proofs.TurnLaws.{turn_stops_at}
use Rattle.depot_audit.proofs.in_turn.look_at_all.Goals as goal

pub returns-in-Unlawful : goal.returns-in-Unlawful
returns-in-Unlawful g c =
    let found = rw c.in-Unlawful.is at c.in_ok-found.ensures in
    turn_stops_at g.S.Scheme.verifies c.args.roster.now (λ t. trace_of t.now) c.args.traces.now c.loop-trace.trace-index c.trace-item.result c.loop-trace.wrong c.in-Unlawful.found.place c.in-Unlawful.found.fault c.loop-trace-test.true c.trace-item.is found c.loop-trace.invariant
