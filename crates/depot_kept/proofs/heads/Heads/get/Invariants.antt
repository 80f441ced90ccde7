use Rattle.std.proofs.Common.{◌≡◌, take}
use Rattle.depot_kept.specs.Heads.{newest_of}
use Rattle.depot_kept.specs.Settled.{settled}
use Rattle.depot_kept.proofs.heads.Heads.get.Given as goal

abbrev pub invariant-loop-fresh : goal.invariant-loop-fresh
invariant-loop-fresh l = l.newest ≡ newest_of (settled l.self.settled l.mark) (take l.fresh-index l.self.fresh.items) l.mark
