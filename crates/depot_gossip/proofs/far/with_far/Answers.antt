use Rattle.std.proofs.Common.{List, ℕ, ◌-◌, ◌<◌, length, map, sym, ap, subst, ◌∙◌}
use Rattle.std.specs.List.{AllByRecursion}
use Rattle.depot_graph.specs.Kept.{updates_in}
use Rattle.depot_gossip.proofs.FarPlaces.{far_made, far_taken_inside}
use Rattle.depot_gossip.proofs.far.with_far.Goals as goal

pub put_items-requires : goal.put_items-requires
put_items-requires c =
    let us = updates_in c.args.graph.now.items.entries in
    subst (λ (xs : List ℕ). AllByRecursion (λ (i : ℕ). i < length us) xs) (sym (c.as_slice-3.ensures.value ∙ c.in_ok-items.ensures)) (far_taken_inside us (map (λ l. l.id) c.as_slice-2.result.now) c.saturating_sub-most.result)

pub returns : goal.returns
returns c =
    let us = updates_in c.args.graph.now.items.entries in
    far_made us c.args.leaves c.into_vec-named.result.items c.as_slice-2.result.now c.as_slice-3.result.now c.saturating_sub-most.result c.from_vec.result c.as_slice-2.ensures (c.saturating_sub-most.ensures ∙ ap (λ (ls : List _). 4097 - length ls) c.as_slice.ensures)
    (c.as_slice-3.ensures.value ∙ c.in_ok-items.ensures) c.into_vec-named.ensures (c.from_vec.ensures ∙ c.in_ok-put_items.ensures)
