use Rattle.depot_session.proofs.ReaderTurns.{asks_give, asks_trim}
use Rattle.depot_session.proofs.requesting.reader_request_with.Goals as goal

pub returns-in-Trim : goal.returns-in-Trim
returns-in-Trim c = rw c.in-Trim.is (λ s name is there. asks_trim s _ name c.args.bytes is there)

pub returns-in-Tgive : goal.returns-in-Tgive
returns-in-Tgive c = rw c.in-Tgive.is (λ s name is there. asks_give s _ name c.args.bytes is there)
