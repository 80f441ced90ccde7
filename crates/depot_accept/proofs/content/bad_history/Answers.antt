use Rattle.std.proofs.Common.{sym, subst, ◌∙◌}
use Rattle.depot_model.specs.checks.Checks.{sight}
use Rattle.depot_graph.specs.Kept.{updates_in}
use Rattle.depot_graph.specs.UpdateRows.{IsJoinedRow}
use Rattle.depot_accept.proofs.ParentItems.{right_history, history_differs, history_same}
use Rattle.depot_accept.proofs.content.bad_history.Goals as goal

pub returns-then-ne : goal.returns-then-ne
returns-then-ne c =
    let us = updates_in c.args.graph.now.items.entries in
    let u = c.args.update.now in
    let ns = c.args.parents.now.items.items in
    let right = c.in_ok-right.right in
    let joined : IsJoinedRow us ns c.as_slice.result.now = subst (IsJoinedRow us ns) (sym c.as_slice.ensures.value) c.requires.row in
    history_differs u (sight us u) right (right_history us u ns right c.requires.items (c.in_ok-right.ensures ns joined)) (sym c.ne.ensures ∙ c.if-ne.true)

pub returns : goal.returns
returns c =
    let us = updates_in c.args.graph.now.items.entries in
    let u = c.args.update.now in
    let ns = c.args.parents.now.items.items in
    let right = c.in_ok-right.right in
    let joined : IsJoinedRow us ns c.as_slice.result.now = subst (IsJoinedRow us ns) (sym c.as_slice.ensures.value) c.requires.row in
    history_same u (sight us u) right (right_history us u ns right c.requires.items (c.in_ok-right.ensures ns joined)) (sym c.ne.ensures ∙ c.if-ne.false)
