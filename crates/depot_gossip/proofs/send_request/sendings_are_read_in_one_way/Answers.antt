use Rattle.depot_gossip.proofs.SendTextLaws.{one_way}
use Rattle.depot_gossip.proofs.send_request.sendings_are_read_in_one_way.Goals as goal

pub returns : goal.returns
returns c = one_way
