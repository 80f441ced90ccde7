use Rattle.std.proofs.Common.{◌≡◌, ◌-◌, ◌*◌, drop}
use Rattle.depot_model.specs.texts.Winternitz.{climb}
use Rattle.depot_winter.proofs.tree.climb.Given as goal

-- the levels that are left lead to where all of them lead
abbrev pub invariant-loop-level : goal.invariant-loop-level
invariant-loop-level l =
    climb l.place l.node (l.height - l.level) (drop (32 * l.level) l.siblings)
    ≡ climb l.fn.seq l.fn.leaf l.height l.siblings
