use Rattle.std.proofs.Common.{List, [], true, false, refl, sym, ap, ◌∙◌}
use Rattle.std.proofs.lemmas.Result.{err_from_is_err_and}
use Rattle.depot_base.specs.declared.record.Record.{Record}
use Rattle.depot_base.specs.declared.tags.FrameTag.TheVariants as tag
use Rattle.depot_model.specs.declared.bundle.Refusal.{Refusal}
use Rattle.depot_model.specs.exchange.Feeding.{passed, counted}
use Rattle.depot_streams.specs.Pieces.{at_work}
use Rattle.depot_streams.specs.NodeCalls.{stream_by, frame_of}
use Rattle.depot_streams.proofs.GivenLaws.{end_is_passed, counted_is_fed, error_leaves, given_byte}
use Rattle.depot_model.proofs.of_journals.JournalCallLaws.{never_stopped}
use Rattle.depot_streams.proofs.LawfulCalls.{idle_on, renamed_on}
use Rattle.depot_streams.proofs.tally.Tally.take.Goals as goal

pub returns-in-End-clause-takes : goal.returns-in-End-clause-takes
returns-in-End-clause-takes g c = rw c.in-End.is (
    c.take_end.ensures.takes (g.R.NodeState.records c.args.node.now)
    ∙ sym (end_is_passed (g.R.NodeState.stands c.args.node.now) c.args.count (frame_of tag.End c.args.payload.now) (at_work (stream_by c.args.self.now [] false) (g.R.NodeState.records c.args.node.now)) refl))

pub returns-in_err-answer-clause-takes : goal.returns-in_err-answer-clause-takes
returns-in_err-answer-clause-takes g c =
    let p = err_from_is_err_and c.from_residual-in_err-answer.result c.from_residual-in_err-answer.ensures.1 in
    rw (p.1, p.2) (error_leaves (g.R.NodeState.stands c.args.node.now) c.args.count (frame_of c.args.tag c.args.payload.now) c.args.self.now (record c.args.self.now { refused = c.reserve.new.self }) (g.R.NodeState.records c.args.node.now) (g.R.NodeState.records c.give.new.node) c.in_err-answer.field-0.0 (given_byte c.args.tag c.in_default.not-End)
    (ap (λ (r : List Refusal). record (stream_by c.args.self.now [] true) { refused = r }) c.reserve.ensures.items)
    c.in_err-answer.ensures.answers)

pub returns-clause-takes : goal.returns-clause-takes
returns-clause-takes g c =
    let J = g.R.NodeState.records c.args.node.now in
    let then = g.R.NodeState.records c.give.new.node in
    let s = at_work (stream_by c.args.self.now [] false) J in
    let told = c.in_ok-answer.ensures.answers in
    counted_is_fed (g.R.NodeState.stands c.args.node.now) c.args.count (frame_of c.args.tag c.args.payload.now) s (at_work (stream_by c.pass.new.self [] false) then) c.in_ok-answer.answer then (given_byte c.args.tag c.in_default.not-End) told
    (c.pass.ensures.passes then
    ∙ ap (λ (K : List Record). passed c.args.count (at_work (stream_by c.count.new.self [] false) K)) told.grown
    ∙ ap (passed c.args.count) (c.count.ensures.counts J told.new)
    ∙ ap (λ (r : List Refusal). passed c.args.count (counted c.in_ok-answer.answer told.new (record s { refused = r }))) c.reserve.ensures.items)

-- ---- what the node is left as

pub returns-in-End-clause-call : goal.returns-in-End-clause-call
returns-in-End-clause-call g c = idle_on g.R.NodeState (g.met.R.Replica.only_now) (g.met.R.Replica.after_none) c.args.node.now _ (g.met.R.Replica.lawful c.args.node.now) c.requires.stable (never_stopped _ c.requires.running (λ e. cc)) (λ e. cc)

pub returns-in_err-reserve-clause-call : goal.returns-in_err-reserve-clause-call
returns-in_err-reserve-clause-call g c =
    let p = err_from_is_err_and c.from_residual.result c.from_residual.ensures.1 in
    rw (p.1, p.2) (idle_on g.R.NodeState (g.met.R.Replica.only_now) (g.met.R.Replica.after_none) c.args.node.now _ (g.met.R.Replica.lawful c.args.node.now) c.requires.stable (never_stopped _ c.requires.running (λ e. cc)) (λ e. cc))

pub returns-in_err-answer-clause-call : goal.returns-in_err-answer-clause-call
returns-in_err-answer-clause-call g c =
    let p = err_from_is_err_and c.from_residual-in_err-answer.result c.from_residual-in_err-answer.ensures.1 in
    rw (p.1, p.2) (renamed_on g.R.NodeState c.args.node.now c.give.new.node _ ((λ e. cc), (λ e. cc)) ((λ e. cc), (λ e. cc)) c.in_err-answer.ensures.call)
