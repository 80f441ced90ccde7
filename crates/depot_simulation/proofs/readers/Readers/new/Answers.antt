use Rattle.depot_simulation.specs.Readers.{first_named}
use Rattle.depot_simulation.proofs.readers.Readers.new.Goals as goal

pub returns : goal.returns
unfolding first_named
returns g c = λ name. rw c.new.ensures.empty tt
