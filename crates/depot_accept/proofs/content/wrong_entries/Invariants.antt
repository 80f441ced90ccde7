use Rattle.std.proofs.Common.{◌≡◌, ◌+◌, drop}
use Rattle.depot_model.specs.lists.Lists.{first}
use Rattle.depot_model.specs.checks.Checks.{wrong_entries}
use Rattle.depot_accept.proofs.NamedUpdates.{found}
use Rattle.depot_accept.proofs.content.wrong_entries.Given as goal

abbrev pub invariant-loop-place : goal.invariant-loop-place
invariant-loop-place g l = first (wrong_entries 1 (found (g.P.Past.updates l.past) l.deps)) ≡ first (wrong_entries (l.place + 1) (found (g.P.Past.updates l.past) (drop l.place l.deps)))
