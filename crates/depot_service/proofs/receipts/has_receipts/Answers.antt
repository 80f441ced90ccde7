use Rattle.std.proofs.Common.{[], subst}
use Rattle.std.proofs.lemmas.Bool.{le-leb, leb-true}
use Rattle.depot_base.proofs.GeneralLaws.{same_test}
use Rattle.depot_queries.specs.Books.{IsBookOf}
use Rattle.depot_queries.proofs.BookLaws.{goes_on}
use Rattle.depot_service.proofs.receipts.has_receipts.Goals as goal

-- a new book has read what precedes any updates
pub catch_up-requires : goal.catch_up-requires
catch_up-requires g c = record { begins = goes_on [] _ c.new-book.result c.new-book.ensures }

pub returns : goal.returns
returns g c =
    let us = subst (λ us. IsBookOf us c.catch_up.new.self) c.graph.ensures c.in_ok-catch_up.ensures.ok in
    let told = c.settled.ensures _ us in
    same_test c.settled.result _ (λ e. le-leb _ _ (told.0 e)) (λ e. told.1 (leb-true _ _ e))
