use Rattle.std.proofs.Common.{◌≡◌, get_or}
use Rattle.depot_readings.specs.ReadingsView.{standing}
use Rattle.depot_decide.proofs.TakenTexts.{readings_go_on, readings_stop}
use Rattle.depot_decide.proofs.text_checks.take_texts.Given.{Over}
use Rattle.depot_decide.proofs.text_checks.take_texts.Goals as goal
use Rattle.depot_decide.proofs.text_checks.take_texts.Goals.{After-take_text}

-- the text that is taken is the one of this place
at_place : (g : Over) (c : After-take_text g) → c.as_slice.result.now ≡ get_or c.args.texts.now c.loop-text.text-index c.as_slice.result.now
at_place g c = rw c.as_slice.ensures c.text-item.is

pub returns-in-Err-Fault : goal.returns-in-Err-Fault
returns-in-Err-Fault g c =
    let wrong = rw c.in-Err-Fault.field-0-is at c.in-Err-Fault.ensures.wrong in
    rw (c.in-Err-Fault.field-0-is, c.count.ensures.count) (readings_stop (standing g.S.Scheme.verifies c.args.readings.now) g.S.Scheme.verifies c.args.texts.now c.loop-text.text-index c.as_slice.result.now c.loop-text.readings c.take_text.new.readings c.in-Err-Fault.fault
    c.loop-text-test.true (at_place g (goal.at.returns-in-Err-Fault g c).After-take_text) c.loop-text.invariant wrong c.in-Err-Fault.ensures.same)

pub loop-text-preserved : goal.loop-text-preserved
loop-text-preserved g c =
    readings_go_on (standing g.S.Scheme.verifies c.args.readings.now) g.S.Scheme.verifies c.args.texts.now c.loop-text.text-index c.as_slice.result.now c.loop-text.readings c.take_text.new.readings
    c.loop-text-test.true (at_place g (goal.at.loop-text-preserved g c).After-take_text) c.loop-text.invariant c.in-Ok.ensures.taken c.in-Ok.ensures.stands
