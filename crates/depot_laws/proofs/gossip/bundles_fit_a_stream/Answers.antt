use Rattle.depot_laws.proofs.exchanges.BundleSizes.{bundle_is_short}
use Rattle.depot_laws.proofs.gossip.bundles_fit_a_stream.Goals as goal

pub returns : goal.returns
returns c here sign J h l = bundle_is_short here sign J h l
