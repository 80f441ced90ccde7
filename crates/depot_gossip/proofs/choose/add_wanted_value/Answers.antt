use Rattle.std.proofs.Common.{List, ◌++◌, ◌≤◌, length, sym, subst, arith}
use Rattle.depot_model.specs.exchange.Bundle.{Parcel}
use Rattle.depot_gossip.specs.Choosing.{AddsTo}
use Rattle.depot_gossip.proofs.FitLaws.{value_adds}
use Rattle.depot_gossip.proofs.ChoiceLaws.{wanted_is_short}
use Rattle.depot_gossip.proofs.choose.add_wanted_value.Goals as goal

pub add-requires-clause-values : goal.add-requires-clause-values
add-requires-clause-values g c =
    let short : length c.in-Some.value.now ≤ 65536 = wanted_is_short (g.R.NodeState.stands c.args.node.now) (g.R.NodeState.records c.args.node.now) c.args.hashes.now.keys c.args.hash.now c.in-Some.value.now (g.met.R.Replica.lawful c.args.node.now) c.in-Some.ensures in
    (omega (arith, short), tt)

pub returns-in-Some : goal.returns-in-Some
returns-in-Some g c = λ xs holds.
    subst (λ (ys : List Parcel). AddsTo (g.R.NodeState.stands c.args.node.now).me (xs ++ ys) c.add.new.self c.add.result) (sym c.in-Some.ensures)
    (value_adds (g.R.NodeState.stands c.args.node.now).me xs c.in-Some.value.now c.args.sending.now c.add.new.self c.add.result holds c.add.ensures)
