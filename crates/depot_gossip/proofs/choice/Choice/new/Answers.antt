use Rattle.depot_gossip.proofs.BoundedChoices.{none_chosen}
use Rattle.depot_gossip.proofs.choice.Choice.new.Goals as goal

pub returns : goal.returns
returns c = λ me J room. none_chosen me J room c.new.result c.new-2.result (c.new.ensures me) c.new-2.ensures
