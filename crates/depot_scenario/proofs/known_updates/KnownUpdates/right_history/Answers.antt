use Rattle.std.proofs.Common.{◌≡◌, List, ℕ, ap, subst, sym, ◌∙◌, ◌<◌, length}
use Rattle.depot_base.specs.declared.update.Update.{Update}
use Rattle.std.specs.List.{AllByRecursion}
use Rattle.std.proofs.lemmas.Result.{IfOk-weaker}
use Rattle.depot_graph.specs.Kept.{updates_in}
use Rattle.depot_graph.specs.Closure.{closure_of}
use Rattle.depot_model.specs.updates.History.{history_hash}
use Rattle.depot_model.specs.updates.Order.{parents, past}
use Rattle.depot_graph.proofs.ItemPlaces.{places_within}
use Rattle.depot_scenario.proofs.SeenUpdates.{hash_of_items}
use Rattle.depot_scenario.proofs.known_updates.KnownUpdates.right_history.Goals as goal

pub history_hash-requires : goal.history_hash-requires
history_hash-requires c =
    let us = updates_in c.args.self.now.graph.items.entries in
    subst (λ (ns : List ℕ). AllByRecursion (λ n. n < length us) ns) (sym c.as_slice.ensures.value) (places_within us (parents c.args.update.now) c.in_ok-items.items.items c.in_ok-items.ensures)

pub returns : goal.returns
returns c =
    let us = updates_in c.args.self.now.graph.items.entries in
    let all = c.args.self.now.listed.updates in
    let u = c.args.update.now in
    IfOk-weaker c.history_hash.result (λ hash. hash ≡ history_hash (closure_of c.as_slice.result.now us)) (λ hash. hash ≡ history_hash (past u all))
    (λ hash is. hash_of_items us u c.in_ok-items.items.items hash c.in_ok-items.ensures (is ∙ ap (λ (ns : List ℕ). history_hash (closure_of ns us)) c.as_slice.ensures.value) ∙ ap (λ (ts : List Update). history_hash (past u ts)) (c.args.self.now.held c.requires.asked)) c.history_hash.ensures
