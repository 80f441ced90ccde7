use Rattle.std.proofs.Common.{◌∙◌}
use Rattle.depot_outside.proofs.Undone.{can_undo, left_is}
use Rattle.depot_outside.proofs.mem_file.MemFile.stop.Goals as goal

pub leave-requires : goal.leave-requires
leave-requires c = can_undo _ _ _ _ c.args.self.now.logged

pub returns-clause-bytes : goal.returns-clause-bytes
returns-clause-bytes c = c.leave.ensures.left ∙ left_is c.args.image c.args.self.now.history.moments.now _ _ _ c.args.self.now.lead c.args.self.now.logged
