-- The tag bytes before frames and before records' texts.
use Rattle.std.specs.Prelude.{ℕ}
use Rattle.depot_base.specs.declared.tags.FrameTag.{FrameTag}
use Rattle.depot_base.specs.declared.tags.FrameTag.TheVariants as frame_tag
use Rattle.depot_base.specs.declared.tags.RecordTag.{RecordTag}
use Rattle.depot_base.specs.declared.tags.RecordTag.TheVariants as record_tag

-- the byte before a frame
abbrev pub frame_byte : FrameTag → ℕ
frame_byte frame_tag.Proof = 1
frame_byte frame_tag.Statement = 2
frame_byte frame_tag.Value = 3
frame_byte frame_tag.End = 4

-- the byte before a record's text
abbrev pub record_byte : RecordTag → ℕ
record_byte record_tag.Birth = 1
record_byte record_tag.OwnPut = 2
record_byte record_tag.OwnVoucher = 3
record_byte record_tag.Foreign = 4
record_byte record_tag.Conviction = 5
record_byte record_tag.Held = 6
