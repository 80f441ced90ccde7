use Rattle.std.proofs.Common.{List, ◌∙◌, ap, not}
use Rattle.std.specs.Prelude.{find}
use Rattle.depot_base.specs.declared.update.Update.{Update}
use Rattle.depot_model.specs.journals.Journal.{has_id}
use Rattle.depot_queries.proofs.DueReceipts.{nothing_against, unknown_against, value_against}
use Rattle.depot_queries.proofs.due.changes_due.Goals as goal

pub returns-in-Some : goal.returns-in-Some
returns-in-Some g c = unknown_against (g.P.NodeState.records c.args.node.now) c.args.ids.now c.in-Some.id (c.in-Some.ensures ∙ ap (λ (us : List Update). find (λ h. not (has_id us h)) c.args.ids.now) c.requires.graph)

pub returns-in-Some-first_lacking : goal.returns-in-Some-first_lacking
returns-in-Some-first_lacking g c =
    value_against (g.P.NodeState.records c.args.node.now) c.args.ids.now c.in-Some-first_lacking.id (c.in_default.ensures ∙ ap (λ (us : List Update). find (λ h. not (has_id us h)) c.args.ids.now) c.requires.graph) c.in-Some-first_lacking.ensures

pub returns : goal.returns
returns g c = (
  nothing_against (g.P.NodeState.records c.args.node.now) c.args.ids.now (c.in_default.ensures ∙ ap (λ (us : List Update). find (λ h. not (has_id us h)) c.args.ids.now) c.requires.graph) c.in_default-first_lacking.ensures,
  c.in_ok-changes_of.ensures,
)
