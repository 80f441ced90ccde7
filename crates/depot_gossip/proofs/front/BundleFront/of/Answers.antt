use Rattle.depot_gossip.proofs.front.BundleFront.of.Goals as goal

pub returns : goal.returns
returns g c = record { proofs = c.in_ok-proofs.ensures; vouchers = c.in_ok-vouchers.ensures }
