use Rattle.std.proofs.Common.{sym}
use Rattle.depot_base.proofs.MembershipLaws.{in_read}
use Rattle.depot_readings.proofs.named.NamedValues.add_each.Goals as goal

pub add_one-requires : goal.add_one-requires
add_one-requires c = c.loop-name.invariant.room c.name-item.result (in_read c.name-item.result c.args.given.now c.loop-name.name-index c.loop-name-test.true (sym c.name-item.is))
