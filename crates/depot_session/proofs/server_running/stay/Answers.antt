use Rattle.depot_session.specs.Keeping.{kept_state}
use Rattle.depot_session.proofs.of_serving.KeptGroups.{kept_serves, lawful_kept, only_now_kept}
use Rattle.depot_session.proofs.of_serving.ServerTurns.{lawful_by_nothing}
use Rattle.depot_session.proofs.server_running.stay.Goals as goal

pub returns-in-Err-clause-lawful : goal.returns-in-Err-clause-lawful
returns-in-Err-clause-lawful g c =
    lawful_by_nothing (kept_state g.N.NodeState g.D.Disk) (only_now_kept g.N.NodeState g.D.Disk g.met.D.Disk.only_now g.met.N.Replica.lawful) (lawful_kept g.N.NodeState g.D.Disk g.met.D.Disk.only_now g.met.N.Replica.lawful) _ c.args.node.now
    (kept_serves g.N.NodeState g.D.Disk g.met.D.Disk.only_now g.met.N.Replica.lawful c.args.node.now c.requires.kept)

pub returns-in-Err-clause-rests : goal.returns-in-Err-clause-rests
returns-in-Err-clause-rests g c = λ ends. kept_serves g.N.NodeState g.D.Disk g.met.D.Disk.only_now g.met.N.Replica.lawful c.args.node.now c.requires.kept

pub returns-in-Ok-clause-began : goal.returns-in-Ok-clause-began
returns-in-Ok-clause-began g c = kept_serves g.N.NodeState g.D.Disk g.met.D.Disk.only_now g.met.N.Replica.lawful c.args.node.now c.requires.kept

pub returns-in-Err-clause-began : goal.returns-in-Err-clause-began
returns-in-Err-clause-began g c = kept_serves g.N.NodeState g.D.Disk g.met.D.Disk.only_now g.met.N.Replica.lawful c.args.node.now c.requires.kept
