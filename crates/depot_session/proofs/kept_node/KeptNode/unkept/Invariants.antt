-- The bytes of the records from the first unkept one on, up to this place.
use Rattle.std.proofs.Common.{◌≡◌, ◌≤◌, map, take, drop}
use Rattle.depot_base.specs.File.{blocks}
use Rattle.depot_model.specs.texts.Records.{text_of_record}
use Rattle.depot_session.proofs.kept_node.KeptNode.unkept.Given as goal

abbrev pub invariant-loop-place : goal.invariant-loop-place
invariant-loop-place g l = record {
  from : l.kept ≤ l.place;
  bytes : l.bytes ≡ blocks (drop l.kept (take l.place (map text_of_record (g.N.NodeState.records l.self.node))));
}
