use Rattle.std.proofs.Common.{rules, sym, ◌∙◌}
use Rattle.std.proofs.lemmas.Result.{err_from_is_err_and}
use Rattle.depot_service.proofs.FedReaders.{end_of_frames, ends_within, is_end, is_no_end, no_frame_stands, taken_all, taken_most, taking_from_start, taking_full, taking_on, taking_short}
use Rattle.depot_service.proofs.readers.feed_reader.Goals as goal

pub loop-init : goal.loop-init
loop-init g c = taking_from_start g.S.Scheme.verifies c.args.reader.now c.args.stream.now c.none-told.result c.none-told.ensures c.requires

pub returns-in_default : goal.returns-in_default
returns-in_default g c = λ R is. taken_all g.S.Scheme.verifies c.args.reader.now c.args.stream.now c.loop.at c.loop.counter c.loop.told c.loop.reader c.loop.invariant (no_frame_stands _ c.loop.at _ c.frame_at.result c.frame_at.ensures c.in_default.not-Frame) R is

pub returns-then-eq : goal.returns-then-eq
returns-then-eq g c = λ R is. taken_all g.S.Scheme.verifies c.args.reader.now c.args.stream.now c.loop.at c.loop.counter c.loop.told c.loop.reader c.loop.invariant (end_of_frames _ _ _ c.in-Frame.ensures.1.0 (is_end c.in-Frame.tag (search rules))) R is

pub payload_at-requires-clause-ends : goal.payload_at-requires-clause-ends
payload_at-requires-clause-ends g c = ends_within c.loop.at c.in-Frame.end c.in-Frame.tag c.args.stream.now c.loop.invariant.within c.in-Frame.ensures

pub returns : goal.returns
returns g c = λ R is. taken_all g.S.Scheme.verifies c.args.reader.now c.args.stream.now c.loop.at c.loop.counter c.loop.told c.loop.reader c.loop.invariant (taken_most _ c.loop.counter _ c.loop-test.false) R is

pub returns-then-not-branch : goal.returns-then-not-branch
returns-then-not-branch g c = λ R is.
    let told = c.in_ok-count.ensures in
    taking_full g.S.Scheme.verifies c.args.reader.now c.args.stream.now c.payload_at.result.now c.loop.at c.loop.counter c.in-Frame.end c.in-Frame.tag c.loop.told c.count.new.self c.loop.reader c.take_frame-answer.new.reader c.take_frame-answer.result
    c.loop.invariant c.loop-test.true c.in-Frame.ensures (is_no_end c.in-Frame.tag (search rules)) c.payload_at.ensures c.take_frame-answer.ensures told.counted.0 (sym told.counted.1 ∙ c.if-not-branch.true) told.settled R is

pub loop-preserved : goal.loop-preserved
loop-preserved g c =
    let told = c.in_ok-count.ensures in
    let within = ends_within c.loop.at c.in-Frame.end c.in-Frame.tag c.args.stream.now c.loop.invariant.within c.in-Frame.ensures in
    taking_on g.S.Scheme.verifies c.args.reader.now c.args.stream.now c.payload_at.result.now c.loop.at c.loop.counter c.in-Frame.end c.in-Frame.tag c.loop.told c.count.new.self c.loop.reader c.take_frame-answer.new.reader c.take_frame-answer.result
    c.loop.invariant c.loop-test.true c.in-Frame.ensures within (is_no_end c.in-Frame.tag (search rules)) c.payload_at.ensures c.take_frame-answer.ensures told.counted.0 (sym told.counted.1 ∙ c.if-not-branch.false)

pub returns-in_err-count : goal.returns-in_err-count
returns-in_err-count g c = λ R is.
    let p = err_from_is_err_and c.from_residual.result c.from_residual.ensures.1 in
    rw p.1 (taking_short g.S.Scheme.verifies c.args.reader.now c.args.stream.now c.payload_at.result.now c.loop.at c.loop.counter c.in-Frame.end c.in-Frame.tag c.loop.told c.loop.reader c.take_frame-answer.new.reader c.take_frame-answer.result
    c.loop.invariant c.loop-test.true c.in-Frame.ensures (is_no_end c.in-Frame.tag (search rules)) c.take_frame-answer.ensures c.in_err-count.ensures.short R is)
