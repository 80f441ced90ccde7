use Rattle.std.proofs.Common.{[]}
use Rattle.depot_graph.specs.Causal.{causal_from_test}
use Rattle.depot_graph.specs.Kept.{updates_in}
use Rattle.depot_graph.proofs.ClockedUpdates.{item_low, item_precedes}
use Rattle.depot_graph.proofs.listed_order.OrderPrecedes.before.Goals as goal

pub before-requires-clause-a : goal.before-requires-clause-a
before-requires-clause-a g c =
    let o = c.args.self.now in
    let us = updates_in o.items.now.entries in
    item_low us o.clocks.now c.args.a (causal_from_test [] us o.causal) o.clocked c.requires.a

pub before-requires-clause-b : goal.before-requires-clause-b
before-requires-clause-b g c =
    let o = c.args.self.now in
    let us = updates_in o.items.now.entries in
    item_low us o.clocks.now c.args.b (causal_from_test [] us o.causal) o.clocked c.requires.b

pub returns-clause-answer : goal.returns-clause-answer
returns-clause-answer g c =
    let o = c.args.self.now in
    let us = updates_in o.items.now.entries in
    item_precedes us o.clocks.now c.args.a c.args.b c.before-2.result (causal_from_test [] us o.causal) o.clocked c.requires.a c.requires.b c.before-2.ensures.answer
