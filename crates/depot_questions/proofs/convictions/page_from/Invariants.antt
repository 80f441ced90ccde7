use Rattle.std.proofs.Common.{take}
use Rattle.depot_questions.proofs.ToldConvictions.{AreAdded}
use Rattle.depot_questions.proofs.convictions.page_from.Given as goal

abbrev pub invariant-loop-place : goal.invariant-loop-place
invariant-loop-place g l = AreAdded (g.N.NodeState.records l.node) l.from (take l.place-index l.places) l.convictions l.room
