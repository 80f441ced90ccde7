use Rattle.depot_queries.proofs.BookLaws.{goes_on}
use Rattle.depot_queries.proofs.book_laws.books_go_on.Goals as goal

pub returns : goal.returns
returns c us more book b = goes_on us more book b
