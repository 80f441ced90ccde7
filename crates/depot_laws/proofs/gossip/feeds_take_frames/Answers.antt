use Rattle.depot_laws.proofs.exchanges.Feeds.{pieces_are_one, frames_in_turn}
use Rattle.depot_laws.proofs.gossip.feeds_take_frames.Goals as goal

pub returns-clause-pieces : goal.returns-clause-pieces
returns-clause-pieces c here s pieces = pieces_are_one here s pieces

pub returns-clause-frames : goal.returns-clause-frames
returns-clause-frames c here s fs good none on = frames_in_turn here s fs good none on
