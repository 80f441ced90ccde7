use Rattle.std.proofs.Common.{◌∙◌, ap, List}
use Rattle.std.specs.Prelude.{option_map, option_and_then, slice_get}
use Rattle.depot_trim.specs.declared.marks.UpdateMark.{UpdateMark}
use Rattle.depot_trim.proofs.MarkedPlaces.{named_at}
use Rattle.depot_trim.proofs.naming.first_named.Goals as goal

pub returns : goal.returns
returns c ts are =
    named_at c.args.statement.now c.args.marks.now.list.items ts c.first_mark.result _
    (c.id_at.ensures ∙ ap (λ (ms : List UpdateMark). option_map (λ (m : UpdateMark). m.id) (option_and_then (λ n. slice_get ms n) c.first_mark.result)) c.as_slice.ensures.value) c.first_mark.ensures are
