use Rattle.std.proofs.Common.{◌∙◌, Bool, List, [], ◌∷◌, ◌++◌, map, take, sym, ap}
use Rattle.depot_graph.specs.Kept.{updates_in}
use Rattle.depot_trim.specs.Trimmings.{is_given_up_below}
use Rattle.depot_trim.proofs.SoFar.{map_next}
use Rattle.depot_trim.proofs.below.trimmed_items.Goals as goal

pub loop-item-preserved : goal.loop-item-preserved
loop-item-preserved c =
    let us = updates_in c.args.graph.now.items.entries in
    let test = is_given_up_below (updates_in c.args.below.now.items.entries) in
    c.in_ok-push.ensures.items ∙ ap (λ (bs : List Bool). bs ++ c.is_given_up.result ∷ []) c.loop-item.invariant
    ∙ ap (λ (b : Bool). map test (take c.loop-item.item us) ++ b ∷ []) c.is_given_up.ensures ∙ sym (map_next test us c.loop-item.item c.update.result.now c.update.ensures)
