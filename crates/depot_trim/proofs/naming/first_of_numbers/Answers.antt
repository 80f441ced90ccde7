use Rattle.depot_trim.proofs.MarkedPlaces.{both_earlier, of_numbers}
use Rattle.depot_trim.proofs.naming.first_of_numbers.Goals as goal

pub returns : goal.returns
returns c =
    let u = c.args.update.now in
    both_earlier _ _ _ _ _ _ c.earlier.ensures c.first_with.ensures c.first_with-2.ensures (of_numbers u.writer u.seq u.prev c.args.marks.now.list.items)
