use Rattle.std.proofs.Common.{arith}
use Rattle.depot_sign.proofs.RosterParsing.{roster_count}
use Rattle.depot_sign.proofs.roster.Roster.count.Goals as goal

pub overflow_cast-result : goal.overflow_cast-result
overflow_cast-result c = let b = roster_count _ c.self.invariant.is_roster in rw c.as_slice.ensures (omega (arith, b.1))

pub returns-clause-not_empty : goal.returns-clause-not_empty
returns-clause-not_empty c = rw c.as_slice.ensures (roster_count _ c.self.invariant.is_roster).0

pub returns-clause-at_most_256 : goal.returns-clause-at_most_256
returns-clause-at_most_256 c = rw c.as_slice.ensures (roster_count _ c.self.invariant.is_roster).1
