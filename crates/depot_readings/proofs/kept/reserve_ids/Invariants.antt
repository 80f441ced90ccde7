use Rattle.std.proofs.Common.{◌≡◌, take}
use Rattle.depot_readings.specs.OwnIds.{HaveRoom}
use Rattle.depot_readings.proofs.kept.reserve_ids.Given as goal

abbrev pub invariant-loop-item : goal.invariant-loop-item
invariant-loop-item l = record {
  room : HaveRoom (take l.item-index l.vouchers) l.mine.room;
  ids : l.mine.ids ≡ l.initial.mine.ids;
}
