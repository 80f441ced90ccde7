use Rattle.depot_examples.proofs.ReadersShow.{shows_as_before}
use Rattle.depot_examples.proofs.shown.readers_show_as_before.Goals as goal

pub returns : goal.returns
returns x here J ids key lawful = shows_as_before here J ids key lawful
