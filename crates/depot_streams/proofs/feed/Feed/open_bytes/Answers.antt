use Rattle.std.proofs.Common.{arith}
use Rattle.depot_streams.proofs.ChunkLaws.{in_reach}
use Rattle.depot_streams.proofs.feed.Feed.open_bytes.Goals as goal

pub overflow_cast-result : goal.overflow_cast-result
overflow_cast-result c = let reach = in_reach c.self.inside.begun.items c.self.invariant.1 in omega (arith, reach.most, c.len.ensures)

pub returns-clause-most : goal.returns-clause-most
returns-clause-most c = let reach = in_reach c.self.inside.begun.items c.self.invariant.1 in omega (arith, reach.some, reach.most, c.len.ensures)
