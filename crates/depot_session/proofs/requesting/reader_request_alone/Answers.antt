use Rattle.depot_session.proofs.ReaderTurns.{asks_nothing}
use Rattle.depot_session.proofs.requesting.reader_request_alone.Goals as goal

pub returns-in-Tgive : goal.returns-in-Tgive
returns-in-Tgive c = rw (c.in-Tgive.is, c.new.ensures) (λ s none. asks_nothing s _ none)
