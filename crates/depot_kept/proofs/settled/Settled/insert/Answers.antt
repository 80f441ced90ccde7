use Rattle.std.proofs.Common.{sym, subst}
use Rattle.depot_kept.specs.declared.marks.StatementMark.{StatementMark}
use Rattle.depot_kept.proofs.SettledLaws.{IsInserted, id_inserted, prev_inserted}
use Rattle.depot_kept.proofs.settled.Settled.insert.Goals as goal

pub returns-in_ok-insert-in-Prev-clause-ok : goal.returns-in_ok-insert-in-Prev-clause-ok
returns-in_ok-insert-in-Prev-clause-ok c =
    let old = c.args.self.now in
    let prevs = c.insert-in-Prev.new.self in
    subst (λ (m : StatementMark). IsInserted old (record old { prevs = prevs }) m c.args.link) (sym c.in-Prev.is) (prev_inserted old prevs c.in-Prev.writer c.in-Prev.prev c.args.link c.in_ok-insert-in-Prev.ensures.updates)

pub returns-in_ok-insert-in-Id-clause-ok : goal.returns-in_ok-insert-in-Id-clause-ok
returns-in_ok-insert-in-Id-clause-ok c =
    let old = c.args.self.now in
    let ids = c.insert-in-Id.new.self in
    subst (λ (m : StatementMark). IsInserted old (record old { ids = ids }) m c.args.link) (sym c.in-Id.is) (id_inserted old ids c.in-Id.id c.args.link c.in_ok-insert-in-Id.ensures.updates)
