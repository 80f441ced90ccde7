use Rattle.std.proofs.Common.{◌≡◌, map, drop}
use Rattle.depot_model.specs.lists.Items.{updates_at}
use Rattle.depot_model.specs.lists.Lists.{first}
use Rattle.depot_accept.proofs.ParentItems.{low_against}
use Rattle.depot_accept.proofs.content.clock_low.Given as goal

abbrev pub invariant-loop-item : goal.invariant-loop-item
invariant-loop-item g l = first (map (low_against l.update) (updates_at (g.P.Past.updates l.past) l.items)) ≡ first (map (low_against l.update) (updates_at (g.P.Past.updates l.past) (drop l.item-index l.items)))
