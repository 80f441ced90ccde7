use Rattle.std.proofs.Common.{◌≡◌, Some, map, max, drop}
use Rattle.depot_model.specs.lists.Items.{updates_at}
use Rattle.depot_model.specs.checks.Checks.{greatest_of}
use Rattle.depot_accept.proofs.content.greatest_clock.Given as goal

abbrev pub invariant-loop-item : goal.invariant-loop-item
invariant-loop-item g l = greatest_of (map (λ t. Some t) (updates_at (g.P.Past.updates l.past) l.items)) ≡ max l.greatest (greatest_of (map (λ t. Some t) (updates_at (g.P.Past.updates l.past) (drop l.item-index l.items))))
