use Rattle.std.proofs.Common.{◌∙◌, sym}
use Rattle.depot_trim.proofs.MarkedPlaces.{name_added, name_there}
use Rattle.depot_trim.proofs.marked_names.add_name.Goals as goal

pub returns-then-contains_key : goal.returns-then-contains_key
returns-then-contains_key c = name_there c.args.firsts.now c.args.name c.args.place (sym c.contains_key.ensures ∙ c.if-contains_key.true)

pub returns : goal.returns
returns c = name_added c.args.firsts.now c.insert.new.self c.args.name c.args.place (sym c.contains_key.ensures ∙ c.if-contains_key.false) c.in_ok-insert.ensures.updates.0
