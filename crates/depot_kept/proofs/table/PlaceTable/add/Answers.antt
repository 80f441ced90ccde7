use Rattle.std.proofs.Common.{arith}
use Rattle.depot_kept.specs.Table.{places_with_mark}
use Rattle.depot_kept.specs.Heads.{head}
use Rattle.depot_kept.proofs.LinkLaws.{linked_more, listed_more, points_to}
use Rattle.depot_kept.proofs.table.PlaceTable.add.Goals as goal

pub invariant_of-self : goal.invariant_of-self
invariant_of-self c =
    let points = points_to (head c.args.self.now.newest) (head c.add.new.self) c.args.mark c.len-link.result c.args.self.now.links.items (omega arith) c.add.ensures.head in
    rw c.push_reserved.ensures.items (record { linked = linked_more (head c.args.self.now.newest) (head c.add.new.self) _ c.args.mark _ c.args.self.now.linked c.get-before.ensures points })

pub returns-clause-listed : goal.returns-clause-listed
unfolding places_with_mark
returns-clause-listed c =
    let points = points_to (head c.args.self.now.newest) (head c.add.new.self) c.args.mark c.len-link.result c.args.self.now.links.items (omega arith) c.add.ensures.head in
    rw c.push_reserved.ensures.items (listed_more (head c.args.self.now.newest) (head c.add.new.self) _ c.args.mark _ c.args.self.now.linked c.get-before.ensures points)
