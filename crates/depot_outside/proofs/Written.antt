-- A write changes its range alone.
use Rattle.std.proofs.Common.{◌≡◌, ℕ, ◌+◌, ◌≤◌, List, ◌++◌, length, take, drop, arith}
use Rattle.std.proofs.lemmas.Grind.{common_steps}
use Rattle.depot_base.specs.Disk.{IsTorn, IsWritten}

take_written : (file bytes : List ℕ) (at : ℕ) → at ≤ length file → take at (take at file ++ bytes ++ drop (at + length bytes) file) ≡ take at file
take_written file bytes at h = grind (arith, common_steps)

drop_written : (file bytes : List ℕ) (at : ℕ) → at ≤ length file → drop (at + length bytes) (take at file ++ bytes ++ drop (at + length bytes) file) ≡ drop (at + length bytes) file
drop_written file bytes at h = grind (arith, common_steps)

-- a write that isn't cut short gives one of the crash images
pub written_is_torn : (old new bytes : List ℕ) (at : ℕ) → at ≤ length old → IsWritten old at bytes new → IsTorn at (length bytes) old new
written_is_torn old new bytes at h written = rw written (record {
  before = take_written old bytes at h;
  after = drop_written old bytes at h;
  no_shorter = grind (arith, common_steps);
  no_longer = grind (arith, common_steps);
})
