use Rattle.std.proofs.Common.{◌≡◌, ℕ, List, append-nil, ◌∙◌, Result, Ok, Err, refl, sym, ap}
use Rattle.std.proofs.lemmas.Result.{err_from_is_err_and}
use Rattle.depot_outside.specs.Told.{sinks}
use Rattle.depot_requests.specs.declared.reply.Halt.{Halt}
use Rattle.depot_requests.specs.declared.reply.Halt.TheVariants as halt
use Rattle.depot_source.specs.Inputs.{inputs}
use Rattle.depot_session.specs.Answering.{serves_of}
use Rattle.depot_session.proofs.of_serving.ServerTurns.{answered_long, begun_in_vain, disk_failed, half_told, none_written, unheard}
use Rattle.depot_session.proofs.serving.turn.Goals as goal

not_both : (r : Result (List ℕ) Halt) → r ≡ Err halt.Memory → r ≡ Err halt.Disk → ⊥
not_both r is wrong = cc

not_ok : (text : List ℕ) → Ok text ≡ Err halt.Disk → ⊥
not_ok text wrong = cc

pub returns-in_err-heard-clause-turns : goal.returns-in_err-heard-clause-turns
returns-in_err-heard-clause-turns g c =
    let p = err_from_is_err_and c.from_residual.result c.from_residual.ensures.1 in
    let n = c.args.node.now in
    rw (p.1, p.2) (unheard g.N.NodeState g.met.N.Replica.only_now g.met.N.Replica.lawful (serves_of g.N.NodeState n) n (inputs g.I.Source c.args.input.now c.hear_request.new.input) (sinks g.K.Sink c.args.out.now c.args.out.now) c.args.at c.requires.running refl c.args.first c.in_err-heard.field-0.0 c.in_err-heard.ensures.hears)

pub returns-in-Err-Memory-clause-turns : goal.returns-in-Err-Memory-clause-turns
returns-in-Err-Memory-clause-turns g c =
    let sink = sinks g.K.Sink c.args.out.now c.args.out.now in
    begun_in_vain g.N.NodeState c.args.node.now c.answer.new.node (inputs g.I.Source c.args.input.now c.hear_request.new.input) sink c.args.at c.in-Some.heard (rw c.in-Some.is at c.in_ok-heard.ensures.hears) _ c.in-Err-Memory.ensures.call
    (λ is. absurd (not_both _ (ap Err c.in-Err-Memory.field-0-is) is)) (none_written sink refl)

pub returns-in-Err-Disk-clause-turns : goal.returns-in-Err-Disk-clause-turns
returns-in-Err-Disk-clause-turns g c =
    let sink = sinks g.K.Sink c.args.out.now c.args.out.now in
    let call = c.in-Err-Disk.ensures.call in
    disk_failed g.N.NodeState c.args.node.now c.answer.new.node (inputs g.I.Source c.args.input.now c.hear_request.new.input) sink c.args.at c.in-Some.heard (rw c.in-Some.is at c.in_ok-heard.ensures.hears) _ call (call.cause.rose (ap Err c.in-Err-Disk.field-0-is)) (none_written sink refl)

pub returns-in-Err-Memory-write-clause-turns : goal.returns-in-Err-Memory-write-clause-turns
returns-in-Err-Memory-write-clause-turns g c =
    begun_in_vain g.N.NodeState c.args.node.now c.answer.new.node (inputs g.I.Source c.args.input.now c.hear_request.new.input) (sinks g.K.Sink c.args.out.now c.write.new.self) c.args.at c.in-Some.heard (rw c.in-Some.is at c.in_ok-heard.ensures.hears) _ c.in-Ok.ensures.call
    (λ is. absurd (not_ok _ is)) (λ told. (rw c.in-Err-Memory-write.field-0-is at (c.in-Err-Memory-write.ensures.written told)) ∙ sym (append-nil (g.K.Sink.written c.args.out.now)))

pub returns-clause-turns : goal.returns-clause-turns
returns-clause-turns g c =
    let e = c.in-Ok.ensures in
    half_told g.N.NodeState c.args.node.now c.answer.new.node (inputs g.I.Source c.args.input.now c.hear_request.new.input) (sinks g.K.Sink c.args.out.now c.write.new.self) c.args.at c.in-Some.heard (rw c.in-Some.is at c.in_ok-heard.ensures.hears) _ e.call
    (λ is. not_ok _ is) c.as_slice.result.now (rw (sym c.as_slice.ensures) at e.answers) (c.in-Err-Failed.ensures.cause.rose (ap Err c.in-Err-Failed.field-0-is)) (λ told. rw c.in-Err-Failed.field-0-is at (c.in-Err-Failed.ensures.written told))

pub returns-in-Ok-write-clause-turns : goal.returns-in-Ok-write-clause-turns
returns-in-Ok-write-clause-turns g c =
    let e = c.in-Ok.ensures in
    answered_long g.N.NodeState c.args.node.now c.answer.new.node (inputs g.I.Source c.args.input.now c.hear_request.new.input) (sinks g.K.Sink c.args.out.now c.write.new.self) c.args.at c.in-Some.heard (rw c.in-Some.is at c.in_ok-heard.ensures.hears) _ e.call
    (λ is. not_ok _ is) c.as_slice.result.now (rw (sym c.as_slice.ensures) at e.answers) c.in-Ok-write.ensures.written
