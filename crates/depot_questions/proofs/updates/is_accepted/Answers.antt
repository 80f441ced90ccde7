use Rattle.depot_graph.specs.Kept.{updates_in}
use Rattle.depot_questions.proofs.ToldUpdates.{is_there}
use Rattle.depot_questions.proofs.updates.is_accepted.Goals as goal

pub returns : goal.returns
returns c = is_there (updates_in c.args.graph.now.items.entries) c.args.id.now c.find.result c.is_some.result c.find.ensures c.is_some.ensures
