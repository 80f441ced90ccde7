use Rattle.depot_laws.proofs.orders.ChainLaws.{forests, apart}
use Rattle.depot_laws.proofs.journals.writers_make_forests.Goals as goal

pub returns-clause-prev : goal.returns-clause-prev
returns-clause-prev c here J l before u after e named = forests here J l before u after e named

pub returns-clause-apart : goal.returns-clause-apart
returns-clause-apart c here J l before u after e t on same = apart here J l before u after e t on same
