use Rattle.depot_readings.specs.ReadingsView.{standing}
use Rattle.depot_decide.proofs.TakenTexts.{fit_is_lawful, room_left}
use Rattle.depot_decide.proofs.record_check.check_record.Goals as goal

pub returns-clause-lawful : goal.returns-clause-lawful
returns-clause-lawful g c =
    fit_is_lawful (standing g.S.Scheme.verifies c.args.readings.now) c.args.readings.now.records c.args.text.now c.in_ok-fit.fit.growth c.count-count.ensures.lawful c.in_ok-fit.ensures.fit
    (room_left _ c.has_room.result c.has_room.ensures c.if-not-has_room.false)
