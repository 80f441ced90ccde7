use Rattle.std.proofs.Common.{◌≡◌, ◌∙◌, ℕ, [], List, Some, ap, not, sym}
use Rattle.std.specs.List.{list_all}
use Rattle.depot_base.specs.Writes.{values_in}
use Rattle.depot_base.specs.declared.update.Update.{Update}
use Rattle.depot_base.specs.declared.write.Write.{Write}
use Rattle.depot_graph.specs.Causal.{causal_from_test}
use Rattle.depot_graph.specs.Kept.{updates_in}
use Rattle.depot_model.specs.lists.Items.{place_of_id}
use Rattle.depot_model.specs.journals.Journal.{holds}
use Rattle.depot_queries.proofs.DueReceipts.{lacks_at, lacks_none}
use Rattle.depot_queries.proofs.due.is_lacking.Goals as goal

in_place : (us : List Update) (h : List ℕ) (n : ℕ) → Some n ≡ place_of_id h us → place_of_id h us ≡ Some n
in_place us h n e = sym e

pub returns : goal.returns
returns g c =
    let us = updates_in c.args.graph.now.items.entries in
    let J = g.P.NodeState.records c.args.node.now in
    ap not (c.holds_all.ensures ∙ ap (λ (ws : List Write). list_all (λ n. holds J n.hash n.size) (values_in ws)) c.as_slice.ensures)
    ∙ lacks_at J us c.args.id.now c.in-Some.item c.update.result.now (causal_from_test [] us c.args.graph.now.causal) c.requires.graph (in_place us c.args.id.now c.in-Some.item c.in-Some.ensures) c.update.ensures

pub returns-in_default : goal.returns-in_default
returns-in_default g c = lacks_none (g.P.NodeState.records c.args.node.now) (updates_in c.args.graph.now.items.entries) c.args.id.now c.requires.graph (sym c.in_default.ensures)
