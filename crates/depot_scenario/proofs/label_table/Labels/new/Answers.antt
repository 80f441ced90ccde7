use Rattle.std.proofs.Common.{refl}
use Rattle.depot_world.specs.Run.{made_in}
use Rattle.depot_scenario.proofs.label_table.Labels.new.Goals as goal

pub returns : goal.returns
unfolding made_in
returns c = λ label. rw c.new.ensures.empty refl
