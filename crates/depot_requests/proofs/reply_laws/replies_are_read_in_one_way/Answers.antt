use Rattle.depot_requests.proofs.ReplyLaws.{one_way}
use Rattle.depot_requests.proofs.reply_laws.replies_are_read_in_one_way.Goals as goal

pub returns : goal.returns
returns c = one_way
