use Rattle.std.proofs.Common.{not, sym}
use Rattle.depot_base.proofs.MembershipLaws.{in_read}
use Rattle.depot_readings.specs.Lacking.{is_held}
use Rattle.depot_readings.proofs.LackingLaws.{settled_next}
use Rattle.depot_readings.proofs.named.NamedValues.settle.Goals as goal

pub settle_one-requires : goal.settle_one-requires
settle_one-requires c = c.loop-name.invariant.room c.name-item.result (in_read c.name-item.result c.args.given.now c.loop-name.name-index c.loop-name-test.true (sym c.name-item.is))

pub loop-name-preserved : goal.loop-name-preserved
loop-name-preserved c = record {
  room = λ n on none. c.settle_one.ensures.rooms n none (c.loop-name.invariant.room n on none);
  named = λ hash size.
      settled_next c.args.given.now c.loop-name.name-index c.name-item.result hash size (not (is_held c.args.values.now hash size)) _ _ _ c.loop-name-test.true c.name-item.is (c.settle_one.ensures.named hash size) (c.loop-name.invariant.named hash size);
}
