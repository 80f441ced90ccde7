-- What a book has read, and what it knows.
use Rattle.std.specs.Prelude.{◌≡◌, ℕ, List, length}
use Rattle.depot_base.specs.declared.update.Update.{Update}
use Rattle.depot_model.specs.worlds.Receipts.{holders_in}
use Rattle.depot_queries.specs.HolderLists.{holders_of}
use Rattle.depot_queries.specs.declared.book.Book.{Book}

-- how many updates a book has read
abbrev pub items_read : Book → ℕ
items_read book = book.read

-- The book has read these updates: for each id it knows which of their writers gave a receipt.
pub record IsBookOf (us : List Update) (book : Book) : Type 0 where
  pub count : book.read ≡ length us
  pub holders : (id : List ℕ) → length id ≡ 32 → holders_of book.holders id ≡ holders_in us id
