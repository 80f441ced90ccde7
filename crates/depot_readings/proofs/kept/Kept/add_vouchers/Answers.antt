use Rattle.std.proofs.Common.{[], length, refl, sym, ap, ◌∙◌, arith}
use Rattle.depot_readings.proofs.OwnIdLaws.{adds_none}
use Rattle.depot_readings.proofs.VoucherSteps.{all_added, may_add, next_has_id, next_has_room, none_added, one_added}
use Rattle.depot_readings.proofs.kept.Kept.add_vouchers.Goals as goal

pub loop-item-init : goal.loop-item-init
loop-item-init g c =
    let made = c.into_iter-item-iterator.ensures.into_iter_gives in
    record {
      count = omega (arith, ap length made.0, made.1, c.args.vouchers.ok.0);
      added = none_added g.S.Scheme.verifies _ _ _ _ _ _ _ made.0 c.requires.room c.requires.mine_room (adds_none [] _ _ refl refl);
    }

pub add_voucher-requires-clause-id : goal.add_voucher-requires-clause-id
add_voucher-requires-clause-id g c = next_has_id g.S.Scheme.verifies _ _ _ c.in-Some.item _ _ _ _ _ _ _ _ _ c.in-Some.ensures.steps.0 c.requires.ids c.loop-item.invariant.added

pub add_voucher-requires-clause-may : goal.add_voucher-requires-clause-may
add_voucher-requires-clause-may g c = may_add g.S.Scheme.verifies _ _ _ c.in-Some.item _ _ _ _ _ _ _ _ _ c.in-Some.ensures.steps.0 c.requires.may c.loop-item.invariant.added

pub add_voucher-requires-clause-room : goal.add_voucher-requires-clause-room
add_voucher-requires-clause-room g c = (next_has_room g.S.Scheme.verifies _ _ _ c.in-Some.item _ _ _ _ _ _ _ _ _ c.in-Some.ensures.steps.0 c.loop-item.invariant.added).spare

pub add_voucher-requires-clause-mine_room : goal.add_voucher-requires-clause-mine_room
add_voucher-requires-clause-mine_room g c = (next_has_room g.S.Scheme.verifies _ _ _ c.in-Some.item _ _ _ _ _ _ _ _ _ c.in-Some.ensures.steps.0 c.loop-item.invariant.added).ids

pub loop-item-preserved : goal.loop-item-preserved
loop-item-preserved g c = record {
  count = omega (arith, ap length c.in-Some.ensures.steps.0, c.in-Some.ensures.steps.1, c.loop-item.invariant.count);
  added = one_added g.S.Scheme.verifies _ _ _ c.in-Some.item _ _ _ _ _ _ _ _ _ _ _ _ _ _ c.in-Some.ensures.steps.0 c.loop-item.invariant.added c.add_voucher.ensures.kept c.add_voucher.ensures.stays c.add_voucher.ensures.room c.add_voucher.ensures.mine c.add_voucher.ensures.mine_room;
}

pub returns-clause-kept : goal.returns-clause-kept
returns-clause-kept g c = (all_added g.S.Scheme.verifies _ _ _ _ _ _ _ _ _ _ _ (sym c.loop-item.invariant.count ∙ c.in-None.ensures.steps.0) c.loop-item.invariant.added).keeps

pub returns-clause-stays : goal.returns-clause-stays
returns-clause-stays g c = c.loop-item.invariant.added.stays

pub returns-clause-mine : goal.returns-clause-mine
returns-clause-mine g c = (all_added g.S.Scheme.verifies _ _ _ _ _ _ _ _ _ _ _ (sym c.loop-item.invariant.count ∙ c.in-None.ensures.steps.0) c.loop-item.invariant.added).mine
