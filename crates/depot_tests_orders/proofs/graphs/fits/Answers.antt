use Rattle.std.proofs.Common.{sym, refl, []}
use Rattle.depot_graph.specs.Causal.{causal_from_test}
use Rattle.depot_graph.specs.Kept.{updates_in}
use Rattle.depot_graph.proofs.Known.{fits_behind}
use Rattle.depot_tests_orders.proofs.graphs.fits.Goals as goal

pub returns : goal.returns
returns c = λ yes.
    let us = updates_in c.args.graph.now.items.entries in
    fits_behind us c.args.update.now c.args.id.now c.find.result (causal_from_test [] us c.args.graph.now.causal) c.requires c.find.ensures (sym c.if-is_some.ensures) (c.if-not-knows_prev.ensures refl) (c.knows_entries.ensures yes)
