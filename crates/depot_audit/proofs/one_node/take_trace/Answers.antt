use Rattle.std.proofs.Common.{◌≡◌, ◌+◌, take, get_or, map, arith}
use Rattle.std.proofs.lemmas.List.{length-map}
use Rattle.depot_readings.specs.ReadingsView.{standing}
use Rattle.depot_decide.proofs.TakenTexts.{IsTaking, readings_go_on, readings_stop, readings_end}
use Rattle.depot_traces.specs.SeenTraces.{read_of}
use Rattle.depot_audit.proofs.ReadSteps.{reads_wait, one_wrong}
use Rattle.depot_audit.proofs.one_node.take_trace.Given.{Over}
use Rattle.depot_audit.proofs.one_node.take_trace.Goals as goal
use Rattle.depot_audit.proofs.one_node.take_trace.Goals.{After-take_text, In-Ok}

-- the text that is taken is the one of this place
at_place : (g : Over) (c : After-take_text g) → c.as_slice.result.now ≡ get_or c.args.texts.now c.loop-text.text-index c.as_slice.result.now
at_place g c = rw c.as_slice.ensures c.text-item.is

-- it is taken
taken : (g : Over) (c : In-Ok g) → IsTaking (standing g.S.Scheme.verifies c.args.readings.now) g.S.Scheme.verifies (take (c.loop-text.text-index + 1) c.args.texts.now) c.take_text.new.readings
taken g c =
    readings_go_on (standing g.S.Scheme.verifies c.args.readings.now) g.S.Scheme.verifies c.args.texts.now c.loop-text.text-index c.as_slice.result.now c.loop-text.readings c.take_text.new.readings
    c.loop-text-test.true (at_place g (goal.at.In-Ok g c).After-take_text) c.loop-text.invariant.0 c.in-Ok.ensures.taken c.in-Ok.ensures.stands

pub returns-in-Err-Fault : goal.returns-in-Err-Fault
returns-in-Err-Fault g c =
    let wrong = rw c.in-Err-Fault.field-0-is at c.in-Err-Fault.ensures.wrong in
    rw (c.in-Err-Fault.field-0-is, c.count.ensures.count) (readings_stop (standing g.S.Scheme.verifies c.args.readings.now) g.S.Scheme.verifies c.args.texts.now c.loop-text.text-index c.as_slice.result.now c.loop-text.readings c.take_text.new.readings c.in-Err-Fault.fault
    c.loop-text-test.true (at_place g (goal.at.returns-in-Err-Fault g c).After-take_text) c.loop-text.invariant.0 wrong c.in-Err-Fault.ensures.same)

pub right_reads-right-requires-clause-right : goal.right_reads-right-requires-clause-right
right_reads-right-requires-clause-right g c =
    reads_wait c.loop-text.readings.records c.take_text.new.readings.records c.in-Ok.ensures.taken.one (map read_of c.args.reads.now) c.loop-text.right c.in-Ok.ensures.taken.grown c.loop-text.invariant.1

pub loop-text-preserved : goal.loop-text-preserved
loop-text-preserved g c = (taken g (goal.at.loop-text-preserved g c).In-Ok, c.right_reads-right.ensures)

pub returns-then-right-reads : goal.returns-then-right-reads
returns-then-right-reads g c =
    one_wrong g.S.Scheme.verifies c.args.readings.now.listed (record { node = c.args.readings.now.me; texts = c.args.texts.now; reads = map read_of c.args.reads.now }) c.loop-text.readings.records c.loop-text.right
    (readings_end (standing g.S.Scheme.verifies c.args.readings.now) g.S.Scheme.verifies c.args.texts.now c.loop-text.text-index c.loop-text.readings c.loop-text-test.false c.loop-text.invariant.0)
    (omega (arith, c.if-right-reads.true, length-map c.args.reads.now read_of))
    c.loop-text.invariant.1
