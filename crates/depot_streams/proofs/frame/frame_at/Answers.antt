use Rattle.std.proofs.Common.{arith}
use Rattle.depot_base.specs.Tags.{frame_byte}
use Rattle.depot_streams.proofs.WholeFrames.{whole_at}
use Rattle.depot_streams.proofs.frame.frame_at.Goals as goal

pub overflow_sub-behind : goal.overflow_sub-behind
overflow_sub-behind c = let whole = whole_at c.args.stream.now c.args.at (frame_byte c.in-Whole.tag) c.in-Whole.payload.now c.requires c.in-Whole.ensures in omega (arith, whole.within)

pub overflow_sub-behind-in-Whole : goal.overflow_sub-behind-in-Whole
overflow_sub-behind-in-Whole c = let whole = whole_at c.args.stream.now c.args.at (frame_byte c.in-Whole.tag) c.in-Whole.payload.now c.requires c.in-Whole.ensures in omega (arith, whole.within)

pub returns-in-Whole : goal.returns-in-Whole
returns-in-Whole c = let whole = whole_at c.args.stream.now c.args.at (frame_byte c.in-Whole.tag) c.in-Whole.payload.now c.requires c.in-Whole.ensures in (c.in-Whole.payload.now, (whole.is, whole.end))
