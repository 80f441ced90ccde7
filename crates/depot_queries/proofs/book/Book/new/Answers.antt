use Rattle.std.proofs.Common.{refl}
use Rattle.depot_model.specs.worlds.Receipts.{numbers_rising}
use Rattle.depot_queries.proofs.book.Book.new.Goals as goal

pub returns : goal.returns
unfolding numbers_rising
returns c = record { count = refl; holders = λ id long. c.new.ensures id }
