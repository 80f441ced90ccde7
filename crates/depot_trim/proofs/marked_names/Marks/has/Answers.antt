use Rattle.std.proofs.Common.{◌∙◌, ap, Option, ℕ, is_some}
use Rattle.depot_trim.specs.declared.marks.Name.TheVariants as name
use Rattle.depot_trim.proofs.MarkedPlaces.{has_of_id}
use Rattle.depot_trim.proofs.marked_names.Marks.has.Goals as goal

pub returns : goal.returns
returns c = c.contains_key.ensures ∙ ap (λ (o : Option ℕ). is_some o) (c.args.self.now.told.first (name.Id c.args.id.now)) ∙ has_of_id c.args.self.now.list.items c.args.id.now
