use Rattle.std.proofs.Common.{◌∙◌, ap, sym, Bool, [], ◌∷◌, if◌then◌else◌}
use Rattle.depot_model.specs.updates.Order.{prevs}
use Rattle.depot_trim.proofs.MarkedPlaces.{of_none, of_one}
use Rattle.depot_trim.proofs.naming.first_of_prev.Goals as goal

pub returns-then-is_zeros : goal.returns-then-is_zeros
returns-then-is_zeros c =
    let u = c.args.update.now in
    of_none (prevs u) c.args.marks.now.list.items (ap (λ (b : Bool). if b then [] else u.prev ∷ []) (sym c.is_zeros.ensures ∙ c.if-is_zeros.true))

pub returns : goal.returns
returns c =
    let u = c.args.update.now in
    c.first_with.ensures ∙ of_one u.prev (prevs u) c.args.marks.now.list.items (ap (λ (b : Bool). if b then [] else u.prev ∷ []) (sym c.is_zeros.ensures ∙ c.if-is_zeros.false))
