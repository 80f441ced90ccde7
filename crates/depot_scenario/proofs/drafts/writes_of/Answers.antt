use Rattle.depot_scenario.proofs.ValueFrames.{write_made}
use Rattle.depot_scenario.proofs.drafts.writes_of.Goals as goal

pub loop-change-preserved : goal.loop-change-preserved
loop-change-preserved c =
    write_made c.args.changes.now c.loop-change.change-index c.change-item.result c.in_ok-write_of.field-0 c.loop-change.writes c.push.new.self c.loop-change-test.true c.change-item.is c.in_ok-write_of.ensures c.in_ok-push.ensures.ok c.loop-change.invariant
