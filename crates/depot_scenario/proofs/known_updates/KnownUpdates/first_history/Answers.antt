use Rattle.std.proofs.Common.{◌≡◌, List, [], ap, ◌∙◌}
use Rattle.std.proofs.lemmas.Result.{IfOk-weaker}
use Rattle.depot_base.specs.declared.update.Update.{Update}
use Rattle.depot_graph.specs.Closure.{closure_of}
use Rattle.depot_graph.specs.Kept.{updates_in}
use Rattle.depot_model.specs.updates.History.{history_hash}
use Rattle.depot_model.specs.updates.Order.{past}
use Rattle.depot_scenario.proofs.SeenUpdates.{hash_of_none}
use Rattle.depot_scenario.proofs.known_updates.KnownUpdates.first_history.Goals as goal

pub returns : goal.returns
returns c =
    let all = c.args.self.now.listed.updates in
    let u = c.args.update.now in
    IfOk-weaker c.history_hash.result (λ hash. hash ≡ history_hash (closure_of [] (updates_in c.new-none.result.items.entries))) (λ hash. hash ≡ history_hash (past u all))
    (λ hash is. hash_of_none all u hash c.requires (is ∙ ap (λ (us : List Update). history_hash (closure_of [] us)) c.new-none.ensures)) c.history_hash.ensures
