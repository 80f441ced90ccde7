use Rattle.std.specs.Map.{keys_of}
use Rattle.depot_kept.proofs.IdSlotLaws.{stays_together, read_is_within, not_ok}
use Rattle.depot_kept.proofs.ids.reserve_all.Goals as goal

pub returns-in_err-reserve_one-clause-known : goal.returns-in_err-reserve_one-clause-known
returns-in_err-reserve_one-clause-known c = λ within.
    let keys = keys_of c.args.slots.now.entries in
    let there = read_is_within c.args.ids.now keys c.loop-id.id-index c.id-item.result within c.loop-id-test.true c.id-item.is in
    absurd (not_ok c.reserve_one.result _ c.in_err-reserve_one.was (c.reserve_one.ensures.known (stays_together keys _ _ c.loop-id.invariant.together c.id-item.result there)))
