-- The outcome of appending a growth where there is room for it.
use Rattle.std.specs.Prelude.{◌≡◌, ◌++◌, Result, Ok, Err, ℕ, List, None}
use Rattle.depot_base.specs.declared.record.Record.{Record}
use Rattle.depot_model.specs.checks.Limits.{IsCutShort}
use Rattle.depot_model.specs.checks.Room.{full_by}
use Rattle.depot_decide.specs.Deciding.{HasGrown, HadNoRoom}
use Rattle.depot_node.specs.declared.commit.CommitError.{CommitError}
use Rattle.depot_node.specs.declared.commit.CommitError.TheVariants as refused
use Rattle.depot_node.specs.declared.commit.WriteError.{WriteError}
use Rattle.depot_node.specs.declared.commit.WriteError.TheVariants as unwritten

-- Records are appended where there is room for them. Memory may come in place of each answer, and then nothing is
-- appended. Where the disk fails, those before the failing one are.
abbrev pub Commits : ℕ → List Record → List Record → Result (Unit {0}) CommitError → List Record → Type 0
Commits me J new (Ok done) after = HasGrown me J new after
Commits me J new (Err refused.Memory) after = after ≡ J
Commits me J new (Err refused.Disk) after = (full_by me J new ≡ None) × IsCutShort J new after
Commits me J new (Err (refused.Full full)) after = HadNoRoom me J new full after

-- Records are appended for which there is room: all; or none for lack of memory; or those before the one on which the
-- disk failed.
abbrev pub AppendsRecords : List Record → List Record → Result (Unit {0}) WriteError → List Record → Type 0
AppendsRecords J new (Ok done) after = after ≡ J ++ new
AppendsRecords J new (Err unwritten.Memory) after = after ≡ J
AppendsRecords J new (Err unwritten.Disk) after = IsCutShort J new after
