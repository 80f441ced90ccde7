use Rattle.std.proofs.Common.{[], ◌≡◌, ◌<◌, ◌∙◌, ap, subst, sym, length, List, ℕ, map}
use Rattle.std.proofs.lemmas.Result.{IfOk-weaker}
use Rattle.std.specs.List.{AllByRecursion}
use Rattle.depot_model.specs.updates.History.{by_id}
use Rattle.depot_model.specs.lists.Items.{place_of_prev, updates_at}
use Rattle.depot_model.specs.checks.Own.{next_entries}
use Rattle.depot_model.proofs.lists.Members.{all_from}
use Rattle.depot_graph.specs.Causal.{causal_from_test}
use Rattle.depot_graph.specs.Kept.{updates_in}
use Rattle.depot_graph.specs.declared.leaf.Leaf.{Leaf}
use Rattle.depot_graph.specs.PastLeaves.{leaf_in, updates_at_places}
use Rattle.depot_graph.proofs.Leaving.{updates_back, items_within, entries_are}
use Rattle.depot_graph.proofs.ChainLeaves.{leaf_within}
use Rattle.depot_graph.proofs.Sorting.{sorted_within}
use Rattle.depot_graph.proofs.history.changed_leaves.Goals as goal

pub unseen_of-requires-clause-items : goal.unseen_of-requires-clause-items
unseen_of-requires-clause-items c =
    let us = updates_in c.args.graph.now.items.entries in
    all_from (λ item. item < length us) c.leaves.result.now (λ n on. leaf_within us c.leaves.result.now n c.leaves.ensures on)

pub returns-clause-entries : goal.returns-clause-entries
returns-clause-entries c =
    let us = updates_in c.args.graph.now.items.entries in
    let unseen = c.in_ok-unseen.unseen.items in
    let causal = causal_from_test [] us c.args.graph.now.causal in
    IfOk-weaker c.items_of.result (λ (items : List ℕ). items ≡ map (λ l. l.item) c.in_ok-leaves.leaves.keys) (λ (items : List ℕ). (id : List ℕ) → place_of_prev id us ≡ c.args.prev → updates_at us items ≡ next_entries c.args.me us id) (λ items are id is.
    ap (λ (places : List ℕ). updates_at us places) (are ∙ ap (λ (ls : List Leaf). map (λ l. l.item) ls) (c.in_ok-leaves.ensures ∙ ap (λ (ns : List ℕ). map (leaf_in us) (by_id (updates_at_places us ns))) c.as_slice.ensures.value))
    ∙ updates_back us (by_id (updates_at_places us unseen)) causal (sorted_within us unseen)
    ∙ entries_are us c.args.me id c.args.prev c.leaves.result.now unseen causal c.leaves.ensures is c.in_ok-unseen.ensures.unseen) c.items_of.ensures

pub returns-clause-items : goal.returns-clause-items
returns-clause-items c =
    let us = updates_in c.args.graph.now.items.entries in
    let unseen = c.in_ok-unseen.unseen.items in
    IfOk-weaker c.items_of.result (λ (items : List ℕ). items ≡ map (λ l. l.item) c.in_ok-leaves.leaves.keys) (λ (items : List ℕ). AllByRecursion (λ item. item < length us) items) (λ items are. subst (λ (places : List ℕ). AllByRecursion (λ item. item < length us) places) (sym (are ∙ ap (λ (ls : List Leaf). map (λ l. l.item) ls) (c.in_ok-leaves.ensures ∙ ap (λ (ns : List ℕ). map (leaf_in us) (by_id (updates_at_places us ns))) c.as_slice.ensures.value)))
    (items_within us (by_id (updates_at_places us unseen)) (causal_from_test [] us c.args.graph.now.causal) (sorted_within us unseen))) c.items_of.ensures
