use Rattle.std.proofs.Common.{inl, inr}
use Rattle.depot_replay.proofs.MemHostStarts.{memory_or_disk}
use Rattle.depot_replay.proofs.mem_host.StartConfig.refused.Goals as goal

pub unreachable-requires : goal.unreachable-requires
unreachable-requires g c = elim (memory_or_disk c.args.back.error c.requires.spared) [ inl memory ↦ c.in_default.not-Memory memory | inr disk ↦ c.in_default.not-Disk disk ]
