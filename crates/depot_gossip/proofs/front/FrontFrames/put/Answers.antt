use Rattle.std.proofs.Common.{refl}
use Rattle.depot_gossip.proofs.FrontLaws.{frame_added}
use Rattle.depot_gossip.proofs.front.FrontFrames.put.Goals as goal

pub returns-clause-added : goal.returns-clause-added
returns-clause-added c = λ fs are. frame_added fs _ c.args.self.now _ c.in_ok-put_frame.ensures refl are
