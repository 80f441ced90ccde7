use Rattle.depot_kept.proofs.HeadLaws.{settled_more, same_with_first}
use Rattle.depot_kept.proofs.heads.settle_all.Goals as goal
use Rattle.depot_base.proofs.Writing.{on_err_from}

pub returns-in_err-insert-clause-err : goal.returns-in_err-insert-clause-err
returns-in_err-insert-clause-err c = on_err_from _ (same_with_first c.args.map.now c.loop-one.map c.insert.new.self c.args.fresh.now c.loop-one.one-index c.loop-one.invariant c.in_err-insert.ensures.err)

pub loop-one-preserved : goal.loop-one-preserved
loop-one-preserved c = settled_more c.args.map.now c.loop-one.map c.insert.new.self c.args.fresh.now c.loop-one.one-index c.one-item.result c.loop-one-test.true c.one-item.is c.loop-one.invariant c.in_ok-insert.ensures.ok
