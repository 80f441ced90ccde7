use Rattle.depot_accept.proofs.StateLaws.{turned_state}
use Rattle.depot_accept.proofs.accept_laws.convictions_may_come_late.Goals as goal

pub returns : goal.returns
returns g c = λ J s p v is. turned_state J s p v is
