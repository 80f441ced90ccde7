use Rattle.depot_laws.proofs.exchanges.RejoinLaw.{rejoins}
use Rattle.depot_laws.proofs.gossip.rejoin_law.Goals as goal

pub returns : goal.returns
returns c W a v sign P J world authentic free meet pieces takes = rejoins W world authentic free a v sign P J meet takes.all pieces takes.are takes.has_room
