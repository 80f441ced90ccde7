use Rattle.depot_streams.proofs.PieceLaws.{pieces_join}
use Rattle.depot_streams.proofs.feed_laws.pieces_are_one.Goals as goal

pub returns : goal.returns
returns c = λ here s a b result S J both. pieces_join here s a b result both.stream S both.journal J both.taken both.runs both.fed
