use Rattle.std.proofs.Common.{arith}
use Rattle.depot_model.proofs.lists.RisingIds.{none_put, put_more}
use Rattle.depot_decide.proofs.voucher_decision.rising.Goals as goal

pub loop-place-init : goal.loop-place-init
loop-place-init c = none_put c.args.ids.now c.new-sorted.result.keys _ c.new-sorted.ensures.empty (omega arith)

pub loop-place-preserved : goal.loop-place-preserved
loop-place-preserved c =
    put_more c.args.ids.now c.loop-place.sorted.keys c.insert.new.self.keys c.loop-place.place c.index-ids-place.result c.loop-place-test.true (omega (arith, c.loop-place.auto.place, c.loop-place-test.true)) c.index-ids-place.is c.loop-place.invariant c.in_ok-insert.ensures.keys
