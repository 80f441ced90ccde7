use Rattle.depot_requests.proofs.RequestLaws.{one_way}
use Rattle.depot_requests.proofs.request_laws.requests_are_read_in_one_way.Goals as goal

pub returns : goal.returns
returns c = one_way
