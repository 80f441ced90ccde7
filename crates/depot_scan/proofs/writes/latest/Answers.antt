use Rattle.std.proofs.Common.{rules}
use Rattle.depot_scan.specs.Bodies.{updates}
use Rattle.depot_scan.proofs.ListedOrder.{sorted_by_listed, sorted_are_latest}
use Rattle.depot_scan.proofs.writes.latest.Goals as goal

pub returns : goal.returns
returns c =
    sorted_are_latest c.args.key.now (updates c.args.bodies.items) c.in_ok-found.found.items c.sort_unstable_by.new.self.items c.requires.causal c.in_ok-found.ensures c.sort_unstable_by.ensures.permutation
    (sorted_by_listed _ c.sort_unstable_by.ensures.sorted (λ a r q k. search rules))
