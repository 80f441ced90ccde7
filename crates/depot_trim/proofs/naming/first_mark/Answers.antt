use Rattle.std.proofs.Common.{◌∙◌, ap, sym}
use Rattle.depot_base.specs.declared.statement.Statement.{Statement}
use Rattle.depot_trim.specs.MarkedNames.{first_place}
use Rattle.depot_trim.specs.Naming.{names_mark}
use Rattle.depot_trim.proofs.MarkedPlaces.{both_earlier, of_update, of_voucher}
use Rattle.depot_trim.proofs.naming.first_mark.Goals as goal

pub returns-in-Update : goal.returns-in-Update
returns-in-Update c =
    let ms = c.args.marks.now.list.items in
    both_earlier _ _ _ _ _ _ c.earlier.ensures c.first_of_parents.ensures c.first_of_numbers.ensures (of_update c.in-Update.update ms) ∙ ap (λ (s : Statement). first_place (names_mark s) ms) (sym c.in-Update.is)

pub returns-in-Voucher : goal.returns-in-Voucher
returns-in-Voucher c =
    let ms = c.args.marks.now.list.items in
    c.first_with.ensures ∙ of_voucher c.in-Voucher.voucher ms ∙ ap (λ (s : Statement). first_place (names_mark s) ms) (sym c.in-Voucher.is)
