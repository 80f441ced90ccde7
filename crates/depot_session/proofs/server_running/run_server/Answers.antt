use Rattle.std.proofs.Common.{rules, sym}
use Rattle.depot_session.proofs.on_disks.RunImages.{settled_there}
use Rattle.depot_session.proofs.server_running.run_server.Goals as goal

pub returns-clause-stable : goal.returns-clause-stable
returns-clause-stable g c = λ told ends. settled_there g.D.Disk _ c.args.disk.now c.run_over.result.disk.now _ (let named = sym c.run_over.ensures.handle in search rules) (c.run_over.ensures.stable told ends)
