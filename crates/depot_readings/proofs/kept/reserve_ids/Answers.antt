use Rattle.std.proofs.Common.{◌∙◌}
use Rattle.depot_kept.proofs.IdSlotLaws.{added_together}
use Rattle.depot_readings.proofs.VoucherSteps.{room_more}
use Rattle.depot_readings.proofs.kept.reserve_ids.Goals as goal

pub loop-item-preserved : goal.loop-item-preserved
loop-item-preserved c = record {
  room = room_more _ _ c.item-item.result _ _ c.loop-item-test.true c.item-item.is c.loop-item.invariant.room c.reserve.ensures.stays (added_together _ _ _ c.in_ok-reserve.ensures.ok);
  ids = c.reserve.ensures.ids ∙ c.loop-item.invariant.ids;
}
