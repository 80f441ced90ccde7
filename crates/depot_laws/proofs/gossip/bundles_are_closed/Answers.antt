use Rattle.depot_laws.proofs.exchanges.ClosedBundles.{all_is_sent, parents_are_sent}
use Rattle.depot_laws.proofs.gossip.bundles_are_closed.Goals as goal

pub returns-clause-left : goal.returns-clause-left
returns-clause-left c W a v sign P J world authentic free hears u whole on = all_is_sent W world authentic free a v sign P J hears whole u on

pub returns-clause-parents : goal.returns-clause-parents
returns-clause-parents c W a v sign P J world authentic free hears front u behind split h parent = parents_are_sent W world authentic free a v sign P J hears front u behind split h parent
