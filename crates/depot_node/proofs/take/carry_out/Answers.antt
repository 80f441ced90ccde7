use Rattle.std.proofs.Common.{Err, subst}
use Rattle.depot_node.specs.StoreCalls.{IsCommitCall}
use Rattle.depot_node.specs.declared.commit.CommitError.{CommitError}
use Rattle.depot_node.specs.declared.commit.CommitError.TheVariants as refused
use Rattle.depot_node.proofs.CallNames.{answered_call, refused_call}
use Rattle.depot_node.proofs.take.carry_out.Goals as goal

pub returns-in-Ok-clause-call : goal.returns-in-Ok-clause-call
returns-in-Ok-clause-call g c = answered_call g.D.Disk c.args.store.now c.commit.new.self c.args.decision.growth c.args.decision.answer c.answered.result c.answered.ensures c.in-Ok.ensures.call

pub returns-in-Err-Memory-clause-call : goal.returns-in-Err-Memory-clause-call
returns-in-Err-Memory-clause-call g c =
    refused_call g.D.Disk c.args.store.now c.commit.new.self c.args.decision.growth refused.Memory (subst (λ (e : CommitError). IsCommitCall g.D.Disk c.args.store.now c.commit.new.self c.args.decision.growth (Err e)) c.in-Err-Memory.field-0-is c.in-Err-Memory.ensures.call)

pub returns-in-Err-Disk-clause-call : goal.returns-in-Err-Disk-clause-call
returns-in-Err-Disk-clause-call g c =
    refused_call g.D.Disk c.args.store.now c.commit.new.self c.args.decision.growth refused.Disk (subst (λ (e : CommitError). IsCommitCall g.D.Disk c.args.store.now c.commit.new.self c.args.decision.growth (Err e)) c.in-Err-Disk.field-0-is c.in-Err-Disk.ensures.call)

pub returns-in-Err-Full-clause-call : goal.returns-in-Err-Full-clause-call
returns-in-Err-Full-clause-call g c =
    rw c.in-Err-Full.field-0-is (refused_call g.D.Disk c.args.store.now c.commit.new.self c.args.decision.growth (refused.Full c.in-Err-Full.full) (subst (λ (e : CommitError). IsCommitCall g.D.Disk c.args.store.now c.commit.new.self c.args.decision.growth (Err e)) c.in-Err-Full.field-0-is c.in-Err-Full.ensures.call))
