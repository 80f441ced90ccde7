-- A book that has read one more update.
use Rattle.std.proofs.Common.{◌≡◌, ◌∙◌, ◌+◌, ◌≤◌, ℕ, suc, Bool, true, false, cond, List, [], ◌∷◌, ◌++◌, map, take, Some, slice_get, zero, sym, ap, subst, arith, add-one, length-append, append-nil}
use Rattle.std.specs.List.{filter}
use Rattle.std.proofs.Math.Seq.{take-append_seam}
use Rattle.std.proofs.lemmas.List.{map-append}
use Rattle.std.proofs.lemmas.List.Elements.{filter-append}
use Rattle.depot_base.specs.declared.update.Update.{Update}
use Rattle.depot_model.specs.lists.Lists.{is_among}
use Rattle.depot_model.specs.worlds.Receipts.{put_number, numbers_rising, gives_receipt, holders_in}
use Rattle.depot_queries.specs.GivenReceipts.{ids_given}
use Rattle.depot_queries.specs.HolderLists.{holders_of}
use Rattle.depot_queries.specs.Books.{IsBookOf}
use Rattle.depot_queries.specs.declared.book.Book.{Book}
use Rattle.depot_queries.proofs.GivenLaws.{listed_is_given}
use Rattle.depot_queries.proofs.RisingPuts.{rising_more}

-- the holders with one update more
pub holders_more : (us : List Update) (u : Update) (h : List ℕ) → holders_in (us ++ u ∷ []) h ≡ cond (gives_receipt h u) (put_number u.writer (holders_in us h)) (holders_in us h)
holders_more us u h = ap (λ (vs : List Update). numbers_rising (map (λ v. v.writer) vs)) (filter-append (gives_receipt h) us (u ∷ [])) ∙ by_test (gives_receipt h u) where
  some : List Update
  some = filter (gives_receipt h) us

  by_test : (b : Bool) → numbers_rising (map (λ v. v.writer) (filter (gives_receipt h) us ++ cond b (u ∷ []) [])) ≡ cond b (put_number u.writer (holders_in us h)) (holders_in us h)
  by_test true = ap numbers_rising (map-append (λ (v : Update). v.writer) (filter (gives_receipt h) us) (u ∷ [])) ∙ rising_more (map (λ v. v.writer) (filter (gives_receipt h) us)) u.writer
  by_test false = ap numbers_rising (map-append (λ (v : Update). v.writer) (filter (gives_receipt h) us) [] ∙ append-nil (map (λ v. v.writer) (filter (gives_receipt h) us)))

-- a book that has noted an update's receipts, and counted it
pub book_more : (us : List Update) (u : Update) (old new : Book) → new.read ≡ old.read + 1
    → ((id : List ℕ) → holders_of new.holders id ≡ cond (is_among id (ids_given u)) (put_number u.writer (holders_of old.holders id)) (holders_of old.holders id)) → IsBookOf us old → IsBookOf (us ++ u ∷ []) new
book_more us u old new one noted b = record {
  count = let long = length-append us (u ∷ []) in omega (arith, one, b.count, long);
  holders = λ id long.
      noted id
      ∙ (ap (λ (t : Bool). cond t (put_number u.writer (holders_of old.holders id)) (holders_of old.holders id)) (sym (listed_is_given u id long))
      ∙ (ap (λ (ns : List ℕ). cond (gives_receipt id u) (put_number u.writer ns) ns) (b.holders id long) ∙ sym (holders_more us u id)));
}

-- ---- one after the other

-- the updates that are read with one more
one_more : (us : List Update) (item : ℕ) (u : Update) → slice_get us item ≡ Some u → take (suc item) us ≡ take item us ++ u ∷ []
one_more [] item u e = absurd cc
one_more (v ∷ us) zero u e = let same : v ≡ u = cc in ap (λ (w : Update). w ∷ []) same
one_more (v ∷ us) (suc item) u e = ap (λ (vs : List Update). v ∷ vs) (one_more us item u e)

pub next_read : (us : List Update) (item : ℕ) (u : Update) → slice_get us item ≡ Some u → take (item + 1) us ≡ take item us ++ u ∷ []
next_read us item u e = ap (λ (n : ℕ). take n us) (add-one item) ∙ one_more us item u e

-- it has read more then
pub reads_on : (us : List Update) (u : Update) (first old new : Book) → IsBookOf us old → IsBookOf (us ++ u ∷ []) new → first.read ≤ old.read → first.read ≤ new.read
reads_on us u first old new b m le = let long = length-append us (u ∷ []) in omega (arith, b.count, m.count, long, le)

-- what it has read precedes whatever goes on from there
pub goes_on : (us more : List Update) (book : Book) → IsBookOf us book → IsBookOf (take book.read (us ++ more)) book
goes_on us more book b = subst (λ (vs : List Update). IsBookOf vs book) (sym (ap (λ (n : ℕ). take n (us ++ more)) b.count ∙ take-append_seam us more)) b
