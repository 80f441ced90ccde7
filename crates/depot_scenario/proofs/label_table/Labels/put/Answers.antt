use Rattle.std.proofs.Common.{sym, ◌∙◌}
use Rattle.depot_scenario.proofs.LabelTables.{labels_more, labels_stay}
use Rattle.depot_scenario.proofs.label_table.Labels.put.Goals as goal

pub returns-then-contains_key : goal.returns-then-contains_key
returns-then-contains_key c = λ labels are. labels_stay c.args.self.now.map.entries labels (record { label = c.args.label.now; bytes = c.args.given.bytes; signed = c.args.given.signed; plain = c.args.given.plain }) are (sym c.contains_key.ensures ∙ c.if-contains_key.true)

pub returns : goal.returns
returns c = λ labels are.
    labels_more c.args.self.now.map c.insert.new.self labels (record { label = c.args.label.now; bytes = c.args.given.bytes; signed = c.args.given.signed; plain = c.args.given.plain }) c.in_ok-name.name are c.in_ok-name.ensures.items (sym c.contains_key.ensures ∙ c.if-contains_key.false) c.in_ok-insert.ensures.updates
