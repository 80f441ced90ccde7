use Rattle.depot_base.proofs.Writing.{on_err_from, begins_list}
use Rattle.depot_base.proofs.entry.put_entries.Goals as goal

pub returns-in_err-put-clause-err : goal.returns-in_err-put-clause-err
returns-in_err-put-clause-err g c =
    on_err_from c.from_residual.result
    (begins_list g.E.Entry.text c.args.out.now c.args.list.now c.loop-item.item-index c.item-item.result c.loop-item.out c.put.new.out c.loop-item-test.true c.item-item.is c.loop-item.invariant c.in_err-put.ensures.err)
