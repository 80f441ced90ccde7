use Rattle.std.proofs.Common.{◌∙◌, ap, List, map}
use Rattle.depot_base.specs.declared.update.Dep.{Dep}
use Rattle.depot_model.specs.lists.Lists.{is_among}
use Rattle.depot_trim.specs.declared.marks.UpdateMark.{UpdateMark}
use Rattle.depot_trim.specs.MarkedNames.{first_place}
use Rattle.depot_trim.proofs.MarkedPlaces.{both_earlier, of_parents}
use Rattle.depot_trim.proofs.naming.first_of_parents.Goals as goal

pub returns : goal.returns
returns c =
    let ms = c.args.marks.now.list.items in
    both_earlier _ _ _ _ _ _ c.earlier.ensures c.first_of_prev.ensures (c.first_of_entries.ensures ∙ ap (λ (ds : List Dep). first_place (λ (m : UpdateMark). is_among m.id (map (λ d. d.id) ds)) ms) c.as_slice.ensures) (of_parents c.args.update.now ms)
