use Rattle.std.proofs.Common.{◌≤◌, map, take}
use Rattle.depot_model.specs.exchange.Bundle.{voucher_frame}
use Rattle.depot_gossip.specs.Fronts.{AreFrames}
use Rattle.depot_gossip.proofs.FrontLaws.{vouchers_at}
use Rattle.depot_gossip.proofs.front.voucher_frames.Given as goal

abbrev pub invariant-loop-place : goal.invariant-loop-place
invariant-loop-place g l = record {
  made : AreFrames (map (voucher_frame (g.R.NodeState.signature_of l.node)) (vouchers_at (g.R.NodeState.records l.node) (take l.place-index l.place-items))) l.frames;
  few : l.frames.count ≤ l.place-index;
}
