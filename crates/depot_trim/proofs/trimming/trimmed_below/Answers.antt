use Rattle.std.proofs.Common.{◌∙◌}
use Rattle.std.proofs.lemmas.Result.{IfOk-weaker}
use Rattle.depot_graph.specs.Kept.{updates_in}
use Rattle.depot_trim.specs.Trimmings.{ids_in}
use Rattle.depot_trim.proofs.BelowLaws.{flags_are}
use Rattle.depot_trim.proofs.trimming.trimmed_below.Goals as goal

pub returns : goal.returns
returns c = IfOk-weaker c.trimmed_items.result _ _ (λ flags e here J lawful is. e ∙ flags_are here J (ids_in c.args.leaves.now) (updates_in c.args.graph.now.items.entries) _ lawful is c.in_ok-below.ensures) c.trimmed_items.ensures
