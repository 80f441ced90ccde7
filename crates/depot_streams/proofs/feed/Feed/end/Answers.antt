use Rattle.std.proofs.Common.{arith}
use Rattle.depot_streams.proofs.ChunkLaws.{in_reach}
use Rattle.depot_streams.proofs.feed.Feed.end.Goals as goal

pub overflow_cast-ending : goal.overflow_cast-ending
overflow_cast-ending c = let reach = in_reach c.self.inside.begun.items c.self.invariant.1 in omega (arith, reach.most, c.len.ensures)
