use Rattle.std.proofs.Common.{◌≤◌, map, take}
use Rattle.depot_model.specs.exchange.Bundle.{proof_frame}
use Rattle.depot_gossip.specs.Fronts.{AreFrames}
use Rattle.depot_gossip.proofs.FrontLaws.{proofs_at}
use Rattle.depot_gossip.proofs.front.proof_frames.Given as goal

abbrev pub invariant-loop-place : goal.invariant-loop-place
invariant-loop-place g l = record {
  made : AreFrames (map proof_frame (proofs_at (g.R.NodeState.records l.node) (take l.place-index l.place-items))) l.frames;
  few : l.frames.count ≤ l.place-index;
}
