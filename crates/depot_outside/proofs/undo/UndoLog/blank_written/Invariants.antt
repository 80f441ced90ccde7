-- The ranges that are left lead to the same bytes.
use Rattle.std.proofs.Common.{◌≡◌, reverse, vec_len, vec_capacity}
use Rattle.depot_outside.specs.StopImages.{blanked}
use Rattle.depot_outside.specs.Undo.{AreInside, written}
use Rattle.depot_outside.proofs.undo.UndoLog.blank_written.Given as goal

abbrev pub invariant-loop-write : goal.invariant-loop-write
invariant-loop-write l = record {
  inside : AreInside (vec_len l.file) (written (reverse l.self.writes.items));
  same : blanked (written (reverse l.self.writes.items)) l.file.items ≡ blanked (written (reverse l.fn.self.writes.items)) l.fn.file.items;
  long : vec_len l.file ≡ vec_len l.fn.file;
  capacity : vec_capacity l.file ≡ vec_capacity l.fn.file;
  bytes_left : vec_capacity l.self.bytes ≡ vec_capacity l.fn.self.bytes;
  writes_left : vec_capacity l.self.writes ≡ vec_capacity l.fn.self.writes;
}

abbrev pub decreases-loop-write : goal.decreases-loop-write
decreases-loop-write l = vec_len l.self.writes
