use Rattle.depot_schedule_parser.proofs.LabelTableSteps.{named_in-insert_entry}
use Rattle.depot_schedule_parser.proofs.labels.NamedLabels.with.Goals as goal

pub returns : goal.returns
returns c = λ other. rw (c.in_ok-insert.ensures.entries, ← c.in_ok-name.ensures.items) (named_in-insert_entry other c.args.self.map.entries c.in_ok-name.name c.args.made)
