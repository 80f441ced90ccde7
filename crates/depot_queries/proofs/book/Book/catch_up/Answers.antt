use Rattle.std.proofs.Common.{List, take, sym, subst}
use Rattle.depot_base.specs.declared.update.Update.{Update}
use Rattle.depot_graph.specs.Kept.{updates_in}
use Rattle.depot_queries.specs.Books.{IsBookOf}
use Rattle.depot_queries.proofs.BookLaws.{next_read, reads_on}
use Rattle.depot_queries.proofs.book.Book.catch_up.Goals as goal

pub loop-item-preserved : goal.loop-item-preserved
loop-item-preserved c =
    let us = updates_in c.args.graph.now.items.entries in
    let item = c.loop-item.item in
    let read = subst (λ (vs : List Update). IsBookOf vs c.read.new.self) (sym (next_read us item c.update.result.now c.update.ensures)) (c.in_ok-read.ensures.ok (take item us) c.loop-item.invariant.book) in
    record {
      book = read;
      more = reads_on (take item us) c.update.result.now c.args.self.now c.loop-item.self c.read.new.self c.loop-item.invariant.book (c.in_ok-read.ensures.ok (take item us) c.loop-item.invariant.book) c.loop-item.invariant.more;
    }
