use Rattle.std.proofs.Common.{ℕ, List, subst}
use Rattle.depot_world.specs.Forgetting.{labels_without}
use Rattle.depot_scenario.specs.Labels.{AreLabels}
use Rattle.depot_scenario.proofs.LabelTables.{labels_fewer}
use Rattle.depot_scenario.proofs.label_table.Labels.forget.Goals as goal

pub returns : goal.returns
returns c = λ labels are. subst (λ (name : List ℕ). AreLabels c.remove.new.self.entries (labels_without name labels)) c.bytes.ensures.same (labels_fewer c.args.self.now.map c.remove.new.self labels c.bytes.result.now are c.remove.ensures.updates)
