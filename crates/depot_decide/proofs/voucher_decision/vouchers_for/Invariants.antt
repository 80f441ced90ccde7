use Rattle.std.specs.Slice.Iter.{chunks_rest, chunks_size}
use Rattle.std.proofs.Common.{◌≡◌}
use Rattle.depot_decide.proofs.VoucherGroups.{AreMade}
use Rattle.depot_decide.proofs.voucher_decision.vouchers_for.Given as goal

abbrev pub invariant-loop-group : goal.invariant-loop-group
invariant-loop-group l =
    goal.iterator-loop-group.can_next l.group-iterator
    × goal.iterator-loop-group.is_finite l.group-iterator
    × (chunks_size l.group-iterator ≡ 256)
    × AreMade l.node l.initial.seq l.fn.ids l.vouchers.items l.seq (chunks_rest l.group-iterator)
