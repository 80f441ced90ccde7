use Rattle.depot_laws.proofs.of_readers.Superseded.{below_closed, precedes_below, trimmed_to, trimmed_from}
use Rattle.depot_laws.proofs.trimming.superseded_updates_are_trimmed.Goals as goal

pub returns-clause-closed : goal.returns-clause-closed
returns-clause-closed c here J ids l t u before on = (below_closed here J l ids t u before on, precedes_below here J l ids t u before on)

pub returns-clause-trimmed : goal.returns-clause-trimmed
returns-clause-trimmed c here J ids u l = (λ on. trimmed_to here J l ids u on, λ both. trimmed_from here J l ids u both.0 both.1)
