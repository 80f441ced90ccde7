use Rattle.std.proofs.Common.{sym, subst}
use Rattle.depot_model.specs.exchange.Hello.{IsHello}
use Rattle.depot_laws.proofs.exchanges.HelloTexts.{hello_fits}
use Rattle.depot_gossip.proofs.HelloParts.{hello_is}
use Rattle.depot_gossip.proofs.own_hello.node_hello.Goals as goal

pub returns-clause-told : goal.returns-clause-told
returns-clause-told g c =
    hello_is (g.R.NodeState.stands c.args.node.now) (g.R.NodeState.records c.args.node.now) c.me.result c.roster_hash.result.now c.in_ok-convicted.convicted c.in_ok-leaves.leaves c.in_ok-wanted.wanted
    c.me.ensures c.roster_hash.ensures c.in_ok-convicted.ensures c.in_ok-leaves.ensures c.in_ok-wanted.ensures

pub returns-clause-fits : goal.returns-clause-fits
returns-clause-fits g c =
    let n = c.args.node.now in
    subst IsHello (sym (returns-clause-told g c)) (hello_fits (g.R.NodeState.stands n) (g.R.NodeState.records n) (g.met.R.Replica.formed n) (g.met.R.Replica.lawful n) (g.met.R.Replica.some n))
