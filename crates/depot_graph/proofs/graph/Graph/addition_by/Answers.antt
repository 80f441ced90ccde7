use Rattle.std.proofs.Common.{◌∙◌, ap, map, List, ℕ, Option}
use Rattle.depot_order.specs.Spots.{next_spot, spots}
use Rattle.depot_graph.specs.Kept.{updates_in, prev_places}
use Rattle.depot_graph.proofs.AddLaws.{leaves_from, children_from}
use Rattle.depot_graph.proofs.graph.Graph.addition_by.Goals as goal

pub returns : goal.returns
returns c =
    let us = updates_in c.args.self.now.items.entries in
    let u = c.args.update.now in
    record {
      prev = c.prev_of-prev.ensures;
      spot = c.next.ensures.spot
          ∙ (ap (λ (ps : List (Option ℕ)). next_spot ps (spots ps) c.prev_of-prev.result) c.args.self.now.chained ∙ ap (next_spot (prev_places us) (spots (prev_places us))) c.prev_of-prev.ensures);
      parents = c.in_ok-parents_of.ensures;
      leaves = leaves_from us u c.prev_of-prev.result c.count-number.result c.args.self.now.leaves.items c.in_ok-leaves_with.field-0.items c.requires.fits c.prev_of-prev.ensures c.count-number.ensures c.args.self.now.ends c.in_ok-leaves_with.ensures;
      children = children_from us u c.prev_of-prev.result c.count-number.result (map (λ list. list.items) c.args.self.now.children.items) c.in_ok-siblings_with.field-0.items c.new.result.items
          c.requires.fits c.prev_of-prev.ensures c.count-number.ensures c.args.self.now.kin c.in_ok-siblings_with.ensures c.new.ensures.items;
    }
