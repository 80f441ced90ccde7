use Rattle.std.proofs.Common.{◌≡◌, ℕ, List, Ok, inl, refl}
use Rattle.std.specs.Prelude.{IsErrAnd, IsErrOf, Err, Result}
use Rattle.depot_requests.specs.declared.reply.Halt.{Halt}
use Rattle.depot_requests.specs.declared.reply.Halt.TheVariants as halt
use Rattle.depot_service.proofs.AskedCalls.{unanswered, untouched_asked}
use Rattle.depot_service.specs.declared.asked.Asked.TheVariants as asked
use Rattle.depot_service.proofs.answering.hand_in.Goals as goal

-- an answer for want of memory isn't one for the disk
not_for_disk : (result : Result (List ℕ) Halt) → IsErrAnd result (λ x. x ≡ halt.Memory) → IsErrOf result halt.Disk → ⊥
not_for_disk (Ok text) is failed = is
not_for_disk (Err x) is failed = let same : x ≡ halt.Disk = cc in (let wrong : halt.Memory ≡ halt.Disk = cc in cc)

was_told : (text : List ℕ) → IsErrOf (Ok text) halt.Disk → ⊥
was_told text wrong = cc

pub returns-in_err-trace-clause-call : goal.returns-in_err-trace-clause-call
returns-in_err-trace-clause-call g c =
    let n = c.args.node.now in
    untouched_asked g.N.NodeState (g.met.N.Replica.only_now) n _ (not_for_disk c.from_residual.result c.from_residual.ensures.1) (g.met.N.Replica.lawful n) c.requires.running

pub returns-in_err-encode_exported-clause-call : goal.returns-in_err-encode_exported-clause-call
returns-in_err-encode_exported-clause-call g c =
    let n = c.args.node.now in
    untouched_asked g.N.NodeState (g.met.N.Replica.only_now) n _ (not_for_disk c.from_residual-in_err-encode_exported.result c.from_residual-in_err-encode_exported.ensures.1) (g.met.N.Replica.lawful n) c.requires.running

pub returns-clause-call : goal.returns-clause-call
returns-clause-call g c =
    let n = c.args.node.now in
    untouched_asked g.N.NodeState (g.met.N.Replica.only_now) n _ (was_told _) (g.met.N.Replica.lawful n) c.requires.running

pub returns-in_err-trace-clause-answers : goal.returns-in_err-trace-clause-answers
returns-in_err-trace-clause-answers g c =
    let n = c.args.node.now in
    unanswered (g.N.NodeState.stands n) (g.N.NodeState.signature_of n) (g.N.NodeState.records n) (asked.Export) _ c.from_residual.result (λ e. e ≡ halt.Memory) c.from_residual.ensures.1 (λ e memory. inl refl)

pub returns-in_err-encode_exported-clause-answers : goal.returns-in_err-encode_exported-clause-answers
returns-in_err-encode_exported-clause-answers g c =
    let n = c.args.node.now in
    unanswered (g.N.NodeState.stands n) (g.N.NodeState.signature_of n) (g.N.NodeState.records n) (asked.Export) _ c.from_residual-in_err-encode_exported.result (λ e. e ≡ halt.Memory) c.from_residual-in_err-encode_exported.ensures.1 (λ e memory. inl refl)
