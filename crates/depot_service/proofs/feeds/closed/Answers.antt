use Rattle.depot_service.proofs.FedStreams.{told_full, told_ill}
use Rattle.depot_service.proofs.feeds.closed.Goals as goal
use Rattle.depot_service.proofs.feeds.closed.Goals.{in-IllFormed, in-Full}

pub returns-clause-told : goal.returns-clause-told
returns-clause-told c = λ here s bytes J f. elim c.match-error.branch [
  | in-IllFormed w ↦ rw w.closing-is (told_ill here s bytes c.args.feed J w.in-IllFormed.at _ c.end.ensures (rw w.in-IllFormed.is at f))
  | in-Full w ↦ rw w.closing-is (told_full here s bytes c.args.feed J w.in-Full.what _ c.end.ensures (rw w.in-Full.is at f))
]
