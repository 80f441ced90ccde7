use Rattle.std.proofs.Common.{ap, sym, ◌∙◌}
use Rattle.std.specs.Str.{bytes_eq}
use Rattle.std.proofs.lemmas.Result.{err_from_is_err_and}
use Rattle.depot_laws.proofs.lists.Tests.{holds_from_not, fails_from_not}
use Rattle.depot_model.specs.readers.Checkpoints.{Checkpoint}
use Rattle.depot_trim.proofs.Openings.{not_read, other_is, leaves_say}
use Rattle.depot_trim.proofs.opening.opened.Goals as goal

pub returns-in_err-checkpoint : goal.returns-in_err-checkpoint
returns-in_err-checkpoint g c =
    let p = err_from_is_err_and c.from_residual.result c.from_residual.ensures.1 in
    rw (p.1, p.2) (not_read (g.R.NodeState.stands c.args.node.now) (g.R.NodeState.records c.args.node.now) c.args.text.now c.in_err-checkpoint.field-0.0 c.in_err-checkpoint.ensures)

pub returns-then-ne : goal.returns-then-ne
returns-then-ne g c =
    let given = c.checkpoint.inside.roster in
    let mine = c.roster_hash.result.now in
    let differs = fails_from_not (bytes_eq given mine) (sym c.ne.ensures ∙ c.if-ne.true) in
    other_is (g.R.NodeState.stands c.args.node.now) (g.R.NodeState.records c.args.node.now) c.args.text.now c.in_ok-checkpoint.checkpoint given mine c.in_ok-checkpoint.ensures.0 c.in_ok-checkpoint.ensures.1
    (ap (λ (x : Checkpoint). x.roster) c.checkpoint.view_is) c.roster_hash.ensures differs

pub returns-in-Some : goal.returns-in-Some
returns-in-Some g c =
    let given = c.checkpoint.inside.roster in
    let mine = c.roster_hash.result.now in
    let same = holds_from_not (bytes_eq given mine) (sym c.ne.ensures ∙ c.if-ne.false) in
    leaves_say (g.R.NodeState.stands c.args.node.now) (g.R.NodeState.records c.args.node.now) c.args.text.now c.in_ok-checkpoint.checkpoint given mine _ c.as_slice.result.now _ c.in_ok-checkpoint.ensures.0 c.in_ok-checkpoint.ensures.1
    (ap (λ (x : Checkpoint). x.roster) c.checkpoint.view_is) c.roster_hash.ensures same c.requires.graph (c.as_slice.ensures ∙ ap (λ (x : Checkpoint). x.leaves) c.checkpoint.view_is) c.in-Some.ensures

pub returns : goal.returns
returns g c =
    let given = c.checkpoint.inside.roster in
    let mine = c.roster_hash.result.now in
    let same = holds_from_not (bytes_eq given mine) (sym c.ne.ensures ∙ c.if-ne.false) in
    let leaves = leaves_say (g.R.NodeState.stands c.args.node.now) (g.R.NodeState.records c.args.node.now) c.args.text.now c.in_ok-checkpoint.checkpoint given mine _ c.as_slice.result.now _ c.in_ok-checkpoint.ensures.0 c.in_ok-checkpoint.ensures.1
    (ap (λ (x : Checkpoint). x.roster) c.checkpoint.view_is) c.roster_hash.ensures same c.requires.graph (c.as_slice.ensures ∙ ap (λ (x : Checkpoint). x.leaves) c.checkpoint.view_is) c.in_default.ensures in
    (c.in_ok-checkpoint.ensures.0, (c.in_ok-checkpoint.ensures.1, leaves))
