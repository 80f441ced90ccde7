use Rattle.depot_gossip.proofs.BoundLaws.{keeps_leaves, names_accepted}
use Rattle.depot_gossip.proofs.FarTexts.{far_fits}
use Rattle.depot_gossip.proofs.bound_laws.far_hellos_have_a_text.Goals as goal

pub returns-clause-text : goal.returns-clause-text
returns-clause-text c = far_fits

pub returns-clause-accepted : goal.returns-clause-accepted
returns-clause-accepted c = names_accepted

pub returns-clause-leaves : goal.returns-clause-leaves
returns-clause-leaves c = keeps_leaves
