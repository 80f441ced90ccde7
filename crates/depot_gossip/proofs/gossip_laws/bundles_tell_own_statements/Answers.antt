use Rattle.depot_gossip.proofs.ToldLaws.{bundle_tells_own}
use Rattle.depot_gossip.proofs.gossip_laws.bundles_tell_own_statements.Goals as goal

pub returns : goal.returns
returns c = λ here sign J b s answer told. bundle_tells_own here sign J answer.text b s answer.lawful answer.begun answer.short answer.is told.fits told.on told.mine
