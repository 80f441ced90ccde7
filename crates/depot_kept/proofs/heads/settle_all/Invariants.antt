use Rattle.std.proofs.Common.{◌≡◌, take}
use Rattle.depot_kept.specs.declared.marks.StatementMark.{StatementMark}
use Rattle.depot_kept.specs.Heads.{newest_of}
use Rattle.depot_kept.specs.Settled.{settled}
use Rattle.depot_kept.proofs.heads.settle_all.Given as goal

abbrev pub invariant-loop-one : goal.invariant-loop-one
invariant-loop-one l = (mark : StatementMark) → settled l.map mark ≡ newest_of (settled l.initial.map mark) (take l.one-index l.fresh) mark
