use Rattle.std.proofs.Common.{◌∙◌, List, ℕ, cond, ap, refl}
use Rattle.depot_model.specs.lists.Lists.{is_among}
use Rattle.depot_model.specs.worlds.Receipts.{put_number}
use Rattle.depot_queries.specs.HolderLists.{holders_of}
use Rattle.depot_queries.proofs.BookLaws.{book_more}
use Rattle.depot_queries.proofs.book.Book.read.Goals as goal

pub returns-clause-ok : goal.returns-clause-ok
returns-clause-ok c = λ us b.
    let u = c.args.update.now in
    let old = c.args.self.now.holders in
    let ids = c.as_slice-2.ensures.value ∙ c.in_ok-ids.ensures in
    book_more us u c.args.self.now _ refl
    (λ id.
    c.note_each.ensures.noted id
    ∙ (ap (λ (ns : List ℕ). cond (is_among id c.as_slice-2.result.now) (put_number u.writer ns) ns) (c.reserve_each.ensures.same id)
    ∙ ap (λ (hs : List (List ℕ)). cond (is_among id hs) (put_number u.writer (holders_of old id)) (holders_of old id)) ids))
    b
