use Rattle.std.proofs.Common.{refl}
use Rattle.std.proofs.lemmas.Result.{on_ok_weaker}
use Rattle.depot_session.proofs.KeptSteps.{keeps_more, keeps_silent}
use Rattle.depot_session.proofs.kept_reads.keep_read.Goals as goal

pub returns-in-Get-clause-reads : goal.returns-in-Get-clause-reads
returns-in-Get-clause-reads g c = rw c.in-Get.is (on_ok_weaker c.keep.result (keeps_more (g.R.NodeState.stands c.args.node.now) (g.R.NodeState.signature_of c.args.node.now) (g.R.NodeState.records c.args.node.now) c.in-Get.key c.args.reads.now c.keep.new.reads) c.keep.ensures)

pub returns-in_default-clause-reads : goal.returns-in_default-clause-reads
returns-in_default-clause-reads g c = keeps_silent (g.R.NodeState.stands c.args.node.now) (g.R.NodeState.signature_of c.args.node.now) (g.R.NodeState.records c.args.node.now) c.args.reads.now c.args.command.now c.in_default.not-Get

pub returns-in-Get-clause-loads : goal.returns-in-Get-clause-loads
returns-in-Get-clause-loads g c = λ failed made. rw c.in-Get.is refl
