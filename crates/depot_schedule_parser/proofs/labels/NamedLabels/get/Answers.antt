use Rattle.std.proofs.Common.{sym, ◌∙◌}
use Rattle.depot_schedule_parser.proofs.LabelTableSteps.{named_in-lookup}
use Rattle.depot_schedule_parser.proofs.labels.NamedLabels.get.Goals as goal

pub returns : goal.returns
returns c = c.copied.ensures ∙ c.get.ensures.value ∙ sym (named_in-lookup c.args.label.now c.args.self.now.map.entries)
