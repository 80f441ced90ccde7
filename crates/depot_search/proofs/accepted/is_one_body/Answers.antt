use Rattle.depot_laws.proofs.orders.SameBodies.{body_is, body_from}
use Rattle.depot_search.proofs.Tests.{one_test}
use Rattle.depot_search.proofs.accepted.is_one_body.Goals as goal

pub returns : goal.returns
returns c = one_test _ _ (λ e. body_from c.args.some.now c.args.other.now (c.is_same.ensures.0 e)) (λ e. c.is_same.ensures.1 (body_is c.args.some.now c.args.other.now c.requires.some c.requires.other e))
