use Rattle.std.proofs.Common.{sym, subst}
use Rattle.depot_model.specs.exchange.Hello.{IsHello}
use Rattle.depot_model.proofs.of_journals.JournalCallLaws.{never_stopped}
use Rattle.depot_requests.specs.declared.reply.Halt.TheVariants as halt
use Rattle.depot_gossip.specs.declared.send_request.SendRequest.TheVariants as request
use Rattle.depot_gossip.proofs.FarTexts.{far_fits}
use Rattle.depot_gossip.proofs.SentCalls.{far_sends, memory_alone, uncalled_sends, untold_sends}
use Rattle.depot_gossip.proofs.far.say_far_hello.Goals as goal

pub returns-in_err-hello-clause-sends : goal.returns-in_err-hello-clause-sends
returns-in_err-hello-clause-sends g c = untold_sends _ _ _ request.FarHello c.from_residual.result c.from_residual.ensures.1

pub returns-in_err-hello-clause-call : goal.returns-in_err-hello-clause-call
returns-in_err-hello-clause-call g c =
    let r = c.from_residual.result in
    let is = c.from_residual.ensures.1 in
    let n = c.args.node.now in
    uncalled_sends g.N.NodeState request.FarHello r (g.met.N.Replica.only_now) (g.met.N.Replica.after_none) n (g.met.N.Replica.lawful n) c.requires.stable (never_stopped _ c.requires.runs (memory_alone r halt.Stopped (λ e. cc) is)) (memory_alone r halt.Disk (λ e. cc) is)

pub encode_hello-requires : goal.encode_hello-requires
encode_hello-requires g c =
    let n = c.args.node.now in
    subst IsHello (sym c.in_ok-hello.ensures) (far_fits (g.N.NodeState.stands n) (g.N.NodeState.records n) (g.met.N.Replica.formed n) (g.met.N.Replica.lawful n) (g.met.N.Replica.some n))

pub returns-in_err-text-clause-sends : goal.returns-in_err-text-clause-sends
returns-in_err-text-clause-sends g c = untold_sends _ _ _ request.FarHello c.from_residual-in_err-text.result c.from_residual-in_err-text.ensures.1

pub returns-in_err-text-clause-call : goal.returns-in_err-text-clause-call
returns-in_err-text-clause-call g c =
    let r = c.from_residual-in_err-text.result in
    let is = c.from_residual-in_err-text.ensures.1 in
    let n = c.args.node.now in
    uncalled_sends g.N.NodeState request.FarHello r (g.met.N.Replica.only_now) (g.met.N.Replica.after_none) n (g.met.N.Replica.lawful n) c.requires.stable (never_stopped _ c.requires.runs (memory_alone r halt.Stopped (λ e. cc) is)) (memory_alone r halt.Disk (λ e. cc) is)

pub returns-clause-sends : goal.returns-clause-sends
returns-clause-sends g c = far_sends (g.N.NodeState.stands c.args.node.now) (g.N.NodeState.signature_of c.args.node.now) (g.N.NodeState.records c.args.node.now) c.in_ok-hello.hello c.in_ok-text.text c.in_ok-hello.ensures c.in_ok-text.ensures

pub returns-clause-call : goal.returns-clause-call
returns-clause-call g c =
    let n = c.args.node.now in
    uncalled_sends g.N.NodeState request.FarHello _ (g.met.N.Replica.only_now) (g.met.N.Replica.after_none) n (g.met.N.Replica.lawful n) c.requires.stable (never_stopped _ c.requires.runs (λ e. cc)) (λ e. cc)
