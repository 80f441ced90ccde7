use Rattle.std.proofs.Common.{[]}
use Rattle.depot_graph.specs.Causal.{causal_from_test}
use Rattle.depot_graph.specs.Kept.{updates_in}
use Rattle.depot_trim.proofs.Signers.{in_past, not_in_past}
use Rattle.depot_trim.proofs.unsigned.follows.Goals as goal

pub returns-in-Some : goal.returns-in-Some
returns-in-Some c = λ u at.
    let us = updates_in c.args.graph.now.items.entries in
    in_past us c.args.item c.in-Some.other u c.args.id.now c.precedes.result (causal_from_test [] us c.args.graph.now.causal) at c.in-Some.ensures c.precedes.ensures

pub returns-in-None : goal.returns-in-None
returns-in-None c = λ u at. not_in_past (updates_in c.args.graph.now.items.entries) u c.args.id.now c.in-None.ensures
