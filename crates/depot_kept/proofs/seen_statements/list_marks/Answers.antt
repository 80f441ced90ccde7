use Rattle.depot_kept.proofs.KeepLaws.{under_number, under_voucher, under_update}
use Rattle.depot_kept.proofs.seen_statements.list_marks.Goals as goal

pub returns-in_default-clause-listed : goal.returns-in_default-clause-listed
returns-in_default-clause-listed c mark = under_voucher c.args.statement.now _ _ mark _ _ _ c.in_default.is (under_number c.args.statement.now _ _ mark _ _ _ c.writer.ensures c.seq.ensures (c.add.ensures.listed mark))

pub returns-clause-listed : goal.returns-clause-listed
returns-clause-listed c mark = under_update c.args.statement.now _ _ mark _ _ _ _ _ c.in-Update.is (under_number c.args.statement.now _ _ mark _ _ _ c.writer.ensures c.seq.ensures (c.add.ensures.listed mark)) (c.add-2.ensures.listed mark) (c.add-3.ensures.listed mark)
