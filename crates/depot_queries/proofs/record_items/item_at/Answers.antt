use Rattle.std.proofs.Common.{subst, arith}
use Rattle.depot_queries.proofs.RecordItems.{IsFound, found}
use Rattle.depot_queries.proofs.record_items.item_at.Goals as goal

pub overflow_cast-result : goal.overflow_cast-result
overflow_cast-result g c =
    let is = found c.args.readings.now.records c.args.place c.places.result.now c.binary_search.result c.places.ensures c.binary_search.ensures.position in
    omega (arith, (subst (IsFound c.args.readings.now.records c.args.place) c.in-Ok.is is).0)

pub returns-in-Ok : goal.returns-in-Ok
returns-in-Ok g c =
    let is = found c.args.readings.now.records c.args.place c.places.result.now c.binary_search.result c.places.ensures c.binary_search.ensures.position in
    (subst (IsFound c.args.readings.now.records c.args.place) c.in-Ok.is is).1

pub returns-in-Err : goal.returns-in-Err
returns-in-Err g c =
    let is = found c.args.readings.now.records c.args.place c.places.result.now c.binary_search.result c.places.ensures c.binary_search.ensures.position in
    subst (IsFound c.args.readings.now.records c.args.place) c.in-Err.is is
