use Rattle.std.proofs.Common.{sym, ◌∙◌}
use Rattle.std.proofs.lemmas.Result.{IfOk-weaker}
use Rattle.depot_simulation.proofs.LabelledUpdates.{entries_named}
use Rattle.depot_simulation.proofs.simulation.Simulation.entries_of.Goals as goal

pub returns : goal.returns
returns g c = IfOk-weaker c.entries_of_others.result _ _ (λ deps made setup run at.
    entries_named run c.args.writer c.args.refs.now c.in-Some.named c.as_slice.result.now deps (sym c.in-Some.is ∙ c.in_ok-named.ensures setup run at) c.as_slice.ensures made) c.entries_of_others.ensures
