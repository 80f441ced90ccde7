use Rattle.std.proofs.Common.{refl}
use Rattle.depot_model.specs.texts.Frames.{frame_at}
use Rattle.depot_streams.proofs.feed.Feed.new.Goals as goal

pub invariant_of-result : goal.invariant_of-result
unfolding frame_at
invariant_of-result c = (c.new.ensures.tally, rw c.in_ok-with_capacity.ensures.items refl)
