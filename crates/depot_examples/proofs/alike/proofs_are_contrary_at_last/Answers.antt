use Rattle.depot_examples.proofs.ChangeLists.{last_point}
use Rattle.depot_examples.proofs.alike.proofs_are_contrary_at_last.Goals as goal

pub returns : goal.returns
returns c = last_point
