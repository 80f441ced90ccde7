use Rattle.std.proofs.Common.{ap}
use Rattle.depot_kept.specs.VouchedView.{IdsWithRoom}
use Rattle.depot_kept.proofs.IdSlotLaws.{within_keys, not_ok}
use Rattle.depot_kept.proofs.ids.VouchedIds.add.Goals as goal

pub returns-in_err-reserve_all-clause-known : goal.returns-in_err-reserve_all-clause-known
returns-in_err-reserve_all-clause-known c = λ within. absurd (not_ok c.reserve_all.result _ c.in_err-reserve_all.was (c.reserve_all.ensures.known (within_keys _ _ _ _ c.as_slice.ensures (ap (λ (v : IdsWithRoom). v.room) c.self.view_is) within)))
