use Rattle.std.proofs.Common.{◌<◌, length, sym, subst, ◌∙◌}
use Rattle.std.specs.List.{AllByRecursion}
use Rattle.depot_graph.specs.Kept.{updates_in}
use Rattle.depot_model.proofs.lists.Members.{all_push}
use Rattle.depot_graph.proofs.CoveredItems.{named_more, place_within}
use Rattle.depot_queries.proofs.candidate_places.items_named.Goals as goal

pub loop-id-preserved : goal.loop-id-preserved
loop-id-preserved c =
    let us = updates_in c.args.graph.now.items.entries in
    let place = sym c.in-Some.ensures in
    record {
      items = c.in_ok-push.ensures.items ∙ named_more us c.args.ids.now c.loop-id.id-index c.id-item.result c.in-Some.item c.loop-id.items.items c.loop-id-test.true c.id-item.is place c.loop-id.invariant.items;
      inside = subst (AllByRecursion (λ item. item < length us)) (sym c.in_ok-push.ensures.items) (all_push (λ item. item < length us) c.loop-id.items.items c.in-Some.item c.loop-id.invariant.inside (place_within us c.id-item.result c.in-Some.item place));
    }
