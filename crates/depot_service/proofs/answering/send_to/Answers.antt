use Rattle.std.proofs.Common.{◌≡◌, ℕ, List, Ok, ap, sym, inl}
use Rattle.std.proofs.lemmas.Result.{err_from_is_err_and}
use Rattle.depot_requests.specs.Requests.{Served}
use Rattle.depot_requests.specs.declared.reply.Halt.TheVariants as halt
use Rattle.depot_service.proofs.AskedCalls.{no_text, replies, unsaid, sending_halted, sending_never_stopped, sending_replied}
use Rattle.depot_service.specs.declared.asked.Asked.TheVariants as asked
use Rattle.depot_service.proofs.answering.send_to.Goals as goal

was_written : (text : List ℕ) → Ok text ≡ no_text halt.Disk → ⊥
was_written text wrong = cc

pub returns-in_err-reply-clause-call : goal.returns-in_err-reply-clause-call
returns-in_err-reply-clause-call g c =
    let p = err_from_is_err_and c.from_residual.result c.from_residual.ensures.1 in
    rw (p.1, p.2) (sending_halted g.N.NodeState c.args.node.now c.send.new.node c.args.sending.now c.in_err-reply.field-0.0 c.requires.running c.in_err-reply.ensures.call)

pub returns-in_err-reply-clause-runs : goal.returns-in_err-reply-clause-runs
returns-in_err-reply-clause-runs g c =
    let p = err_from_is_err_and c.from_residual.result c.from_residual.ensures.1 in
    rw (p.1, p.2) (sending_never_stopped g.N.NodeState c.args.node.now c.send.new.node c.args.sending.now c.in_err-reply.field-0.0 c.requires.running c.in_err-reply.ensures.call)

pub returns-in_err-reply-clause-answers : goal.returns-in_err-reply-clause-answers
returns-in_err-reply-clause-answers g c =
    let p = err_from_is_err_and c.from_residual.result c.from_residual.ensures.1 in
    rw (p.1, p.2) (inl c.in_err-reply.ensures.sends)

pub returns-in_err-encode_reply-clause-answers : goal.returns-in_err-encode_reply-clause-answers
returns-in_err-encode_reply-clause-answers g c =
    unsaid (g.N.NodeState.stands c.args.node.now) (g.N.NodeState.signature_of c.args.node.now) (g.N.NodeState.records c.args.node.now) (asked.Sending c.args.sending.now) _
    c.from_residual-in_err-encode_reply.result c.from_residual-in_err-encode_reply.ensures.1 (sym (ap (λ (s : Served). s.journal) c.in_ok-reply.ensures.sends))

pub returns-clause-answers : goal.returns-clause-answers
returns-clause-answers g c = replies (g.N.NodeState.records c.send.new.node) _ c.in_ok-reply.reply _ c.in_ok-reply.ensures.sends c.in_ok-encode_reply.ensures

pub returns-clause-call : goal.returns-clause-call
returns-clause-call g c = sending_replied g.N.NodeState c.args.node.now c.send.new.node c.args.sending.now c.in_ok-reply.reply _ (λ is. was_written _ is) c.requires.running c.in_ok-reply.ensures.call
