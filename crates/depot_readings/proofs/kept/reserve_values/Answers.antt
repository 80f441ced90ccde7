use Rattle.std.proofs.Common.{◌≡◌, true, ◌∙◌}
use Rattle.depot_base.specs.declared.update.NamedValue.{NamedValue}
use Rattle.depot_kept.specs.Values.{has_value_room}
use Rattle.depot_readings.proofs.AddingLaws.{each_next}
use Rattle.depot_readings.proofs.kept.reserve_values.Goals as goal

pub loop-name-preserved : goal.loop-name-preserved
loop-name-preserved c = record {
  room = each_next (λ (n : NamedValue). has_value_room c.reserve.new.self n.hash ≡ true) c.args.names.now c.loop-name.name-index c.name-item.result c.loop-name-test.true c.name-item.is (λ m on. c.reserve.ensures.room_stays m.hash (c.loop-name.invariant.room m on)) c.in_ok-reserve.ensures.room;
  same = λ hash. c.reserve.ensures.values_stay hash ∙ c.loop-name.invariant.same hash;
}

pub returns-in_err-reserve-clause-same : goal.returns-in_err-reserve-clause-same
returns-in_err-reserve-clause-same c = λ hash. c.reserve.ensures.values_stay hash ∙ c.loop-name.invariant.same hash
