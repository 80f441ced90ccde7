use Rattle.std.proofs.Common.{length, true, false, ◌∙◌}
use Rattle.depot_outside.specs.Stopping.{state_of}
use Rattle.depot_outside.proofs.Calling.{as_read}
use Rattle.depot_outside.proofs.mem_disk.MemDiskDisk.read.Goals as goal

pub returns-in_err-begin-clause-made : goal.returns-in_err-begin-clause-made
returns-in_err-begin-clause-made c =
    let was = c.in_err-begin.ensures in
    rw c.from_residual.ensures.0 (was.outcome, was.state ∙ as_read (state_of c.args.self.now) c.args.at (length c.args.into.now) true)

pub returns-clause-made : goal.returns-clause-made
returns-clause-made c =
    let was = c.in_ok-begin.ensures in
    (was.outcome, was.state ∙ as_read (state_of c.args.self.now) c.args.at (length c.args.into.now) false)
