-- The writes that are left take the file back to the same bytes.
use Rattle.std.proofs.Common.{◌≡◌, ◌≤◌, reverse, vec_len, vec_capacity}
use Rattle.depot_outside.specs.Undo.{CanUndo, undone}
use Rattle.depot_outside.proofs.undo.UndoLog.take_back.Given as goal

abbrev pub invariant-loop-write : goal.invariant-loop-write
invariant-loop-write l = record {
  can : CanUndo (reverse l.self.writes.items) l.self.bytes.items l.file.items;
  same : undone (reverse l.self.writes.items) l.self.bytes.items l.file.items ≡ undone (reverse l.fn.self.writes.items) l.fn.self.bytes.items l.fn.file.items;
  shorter : vec_len l.file ≤ vec_len l.fn.file;
  capacity : vec_capacity l.file ≡ vec_capacity l.fn.file;
  bytes_left : vec_capacity l.self.bytes ≡ vec_capacity l.fn.self.bytes;
  writes_left : vec_capacity l.self.writes ≡ vec_capacity l.fn.self.writes;
}

abbrev pub decreases-loop-write : goal.decreases-loop-write
decreases-loop-write l = vec_len l.self.writes
