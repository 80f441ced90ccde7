use Rattle.std.proofs.lemmas.Bool.{both_ways}
use Rattle.std.proofs.Common.{map}
use Rattle.depot_traces.specs.SeenTraces.{read_of}
use Rattle.depot_audit.proofs.ReadSteps.{next_read, read_goes_on, read_stops}
use Rattle.depot_audit.proofs.one_node.right_reads.Goals as goal

pub returns-then-not-is_shown : goal.returns-then-not-is_shown
returns-then-not-is_shown g c =
    read_stops c.args.readings.now.records (map read_of c.args.reads.now) c.loop-place.place (read_of c.index-reads-place.result)
    (next_read read_of c.args.reads.now c.loop-place.place c.index-reads-place.result c.loop-place-test.true c.index-reads-place.is)
    (λ shown. both_ways c.is_shown.result c.if-not-is_shown.true (c.is_shown.ensures.1 shown))
    c.loop-place.invariant

pub loop-place-preserved : goal.loop-place-preserved
loop-place-preserved g c =
    read_goes_on c.args.readings.now.records (map read_of c.args.reads.now) c.loop-place.place (read_of c.index-reads-place.result) c.requires.some
    (next_read read_of c.args.reads.now c.loop-place.place c.index-reads-place.result c.loop-place-test.true c.index-reads-place.is)
    (c.is_shown.ensures.0 c.if-not-is_shown.false)
    c.loop-place.invariant
