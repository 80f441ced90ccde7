use Rattle.std.proofs.Common.{◌≡◌, true, ◌∙◌}
use Rattle.depot_base.specs.declared.update.NamedValue.{NamedValue}
use Rattle.depot_readings.specs.Named.{has_room}
use Rattle.depot_readings.proofs.AddingLaws.{each_next}
use Rattle.depot_readings.proofs.named.NamedValues.reserve.Goals as goal

pub loop-name-preserved : goal.loop-name-preserved
loop-name-preserved c = record {
  room = each_next (λ (n : NamedValue). has_room c.reserve_one.new.self n ≡ true) c.args.given.now c.loop-name.name-index c.name-item.result c.loop-name-test.true c.name-item.is (λ m on. c.reserve_one.ensures.rooms m (c.loop-name.invariant.room m on)) c.in_ok-reserve_one.ensures.room;
  same = λ hash size. c.reserve_one.ensures.same hash size ∙ c.loop-name.invariant.same hash size;
}
