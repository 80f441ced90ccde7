-- The records before the next one are on the disk, and no more room was taken than theirs.
use Rattle.std.proofs.Common.{◌≡◌, ◌++◌, IsTrue, vec_len, length, take}
use Rattle.depot_base.specs.Calls.{calls_to_append_all, made}
use Rattle.depot_base.specs.Disk.{LeavesOnly}
use Rattle.depot_base.specs.File.{blocks}
use Rattle.depot_journal.specs.Mirrored.{IsMirror, StandsOnDisk, TakesSpace, bodies_at}
use Rattle.depot_base.specs.WithRest.{with_rest}
use Rattle.depot_journal.specs.WriteSteps.{StandsBetween}
use Rattle.depot_journal.proofs.mirror.append_each.Given as goal

abbrev pub invariant-loop-place : goal.invariant-loop-place
invariant-loop-place g l = record {
  mirror : IsMirror l.mirror.bytes.items l.mirror.spans.items;
  bodies : bodies_at l.mirror.bytes.items l.mirror.spans.items ≡ bodies_at l.fn.mirror.bytes.items l.fn.mirror.spans.items ++ take l.place (with_rest l.texts l.rest);
  space : TakesSpace g.D.Disk l.fn.mirror l.mirror l.place (length (blocks (take l.place (with_rest l.texts l.rest))));
  handle : g.D.Disk.handle l.mirror.disk ≡ g.D.Disk.handle l.fn.mirror.disk;
  tells : g.D.Disk.tells l.mirror.disk ≡ g.D.Disk.tells l.fn.mirror.disk;
  rests : StandsOnDisk g.D.Disk l.mirror;
  images : IsTrue (g.D.Disk.tells l.fn.mirror.disk) → LeavesOnly g.D.Disk.moment g.D.Disk.left_since l.fn.mirror.disk l.mirror.disk (StandsBetween (bodies_at l.fn.mirror.bytes.items l.fn.mirror.spans.items) (with_rest l.texts l.rest));
  calls : g.D.Disk.after l.fn.mirror.disk (made (calls_to_append_all (vec_len l.fn.mirror.bytes) (take l.place (with_rest l.texts l.rest)))) l.mirror.disk;
  faults : g.D.Disk.faults l.mirror.disk ≡ g.D.Disk.faults l.fn.mirror.disk;
  faultless : g.D.Disk.is_faultless l.fn.mirror.disk → g.D.Disk.is_faultless l.mirror.disk;
}
