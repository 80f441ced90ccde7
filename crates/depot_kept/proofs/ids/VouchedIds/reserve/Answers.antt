use Rattle.std.proofs.Common.{ap}
use Rattle.depot_kept.specs.VouchedView.{IdsWithRoom}
use Rattle.depot_kept.proofs.IdSlotLaws.{within_keys}
use Rattle.depot_kept.proofs.ids.VouchedIds.reserve.Goals as goal

pub returns-clause-known : goal.returns-clause-known
returns-clause-known c = λ within. c.reserve_all.ensures.known (within_keys _ _ _ _ c.as_slice.ensures (ap (λ (v : IdsWithRoom). v.room) c.self.view_is) within)
