use Rattle.std.proofs.Common.{ap, sym, ◌∙◌}
use Rattle.depot_model.specs.checks.Vouching.{rising}
use Rattle.depot_simulation.proofs.NamedIds.{ids_named, none_named}
use Rattle.depot_world.specs.FaultySigning.{all_referred}
use Rattle.depot_simulation.proofs.simulation.Simulation.receipt_ids.Goals as goal

pub returns-in_default : goal.returns-in_default
returns-in_default g c = λ setup run at. none_named (all_referred run c.args.refs.now) (sym c.in_default.is ∙ c.in_ok-named.ensures setup run at)

pub returns : goal.returns
returns g c = λ setup run at. ids_named c.in-Some.named _ c.in_ok-ids.ids c.in_ok-rising_ids.field-0 (all_referred run c.args.refs.now) (sym c.in-Some.is ∙ c.in_ok-named.ensures setup run at) c.as_slice.ensures c.in_ok-ids.ensures (c.in_ok-rising_ids.ensures ∙ ap rising c.as_slice-2.ensures)
