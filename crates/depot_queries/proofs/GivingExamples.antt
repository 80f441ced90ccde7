-- Worked examples: which receipts an update gives, which a book knows, and what a node answers when asked for some.
use Rattle.std.proofs.Common.{◌≡◌, ◌∙◌, ℕ, List, [], ◌∷◌, ◌++◌, true, false, Some, None, Ok, Err, refl, sym}
use Rattle.sha2.specs.Sha256.{sha256, first_words, schedule, rounds, compress, hash_after, digest_bytes}
use Rattle.depot_base.specs.Closed.{rest_of}
use Rattle.depot_base.specs.Cursor.{numeral}
use Rattle.depot_base.specs.Format.{number, bytes_of, inner, list_of}
use Rattle.depot_base.specs.Parts.{dep}
use Rattle.depot_base.specs.Writes.{put_one, one_change}
use Rattle.depot_base.specs.Zeros.{zeros}
use Rattle.depot_base.specs.declared.record.Record.{Record}
use Rattle.depot_base.specs.declared.record.Record.TheVariants.{Birth, OwnPut, OwnVoucher, Foreign}
use Rattle.depot_base.specs.declared.statement.Statement.TheVariants as statements
use Rattle.depot_base.specs.declared.update.Update.{Update}
use Rattle.depot_base.specs.declared.write.Write.{Write}
use Rattle.depot_base.specs.declared.write.Wrote.TheVariants.{Put, Gone}
use Rattle.depot_model.specs.checks.Putting.{put_done_of}
use Rattle.depot_model.specs.declared.put_answers.PutDone.{PutDone}
use Rattle.depot_model.specs.checks.Checks.{Setting}
use Rattle.depot_model.specs.updates.History.{leaves_of, put_by_id, by_id, history_text, history_hash}
use Rattle.depot_model.specs.journals.Journal.{has_id, holds, first_values, prev_of, named}
use Rattle.depot_model.specs.checks.Limits.{spent_by, tips_of, collides_by, limit_of_own, limit_of_put}
use Rattle.depot_model.specs.updates.Order.{past}
use Rattle.depot_model.specs.checks.Own.{precedes_named, next_entries, next_own, leaf_count}
use Rattle.depot_model.specs.worlds.Receipts.{receipt_key, receipt_of, put_number, numbers_rising, no_receipt, lacks_value, receipt_changes}
use Rattle.depot_model.specs.texts.Records.{birth, own_put, tagged, record_text}
use Rattle.depot_model.specs.checks.Room.{foreign_leaves, full_with}
use Rattle.depot_model.specs.texts.Roster.{key_of}
use Rattle.depot_model.specs.texts.Texts.{update_fields, voucher_fields, update_body, voucher_body, statement, signed, id_of_update}
use Rattle.depot_queries.specs.Books.{IsBookOf}
use Rattle.depot_queries.specs.GivenReceipts.{ids_given}
use Rattle.depot_queries.specs.Giving.{GivesReceipts, receipt_records}
use Rattle.depot_queries.specs.HolderLists.{holders_of}
use Rattle.depot_queries.specs.RisingPlaces.{place_among, stands_in}
use Rattle.depot_queries.specs.declared.book.Book.{Book}
use Rattle.depot_queries.specs.declared.give_error.GiveError.TheVariants as give

-- ---- the receipts of an update

-- an update of a node with these writes
abbrev wrote : ℕ → List Write → Update
wrote n ws = record { writer = n; seq = 0; clock = 2; prev = zeros; writes = ws; deps = []; history = zeros }

-- a receipt of a node for zeros, with a value that is not empty
abbrev receipt : ℕ → Update
receipt n = wrote n (put_one (receipt_key zeros) zeros 3)

one_receipt : ids_given (receipt 3) ≡ zeros ∷ []
unfolding receipt_key receipt_of
one_receipt = refl

-- a receipt that is deleted, and a key of another form
no_receipts : ids_given (wrote 3 (record { key = receipt_key zeros; what = Gone } ∷ record { key = 107 ∷ []; what = Put zeros 0 } ∷ [])) ≡ []
unfolding receipt_key receipt_of
no_receipts = refl

-- ---- places

among : place_among 5 (2 ∷ 4 ∷ 7 ∷ []) ≡ 2
among = refl

there : stands_in 4 (2 ∷ 4 ∷ 7 ∷ []) ≡ true
there = refl

not_there : stands_in 5 (2 ∷ 4 ∷ 7 ∷ []) ≡ false
not_there = refl

-- ---- books

-- who gave a receipt twice is a holder once
holders_are : (book : Book) → IsBookOf (receipt 3 ∷ receipt 2 ∷ receipt 3 ∷ []) book → holders_of book.holders zeros ≡ 2 ∷ 3 ∷ []
unfolding receipt_key numbers_rising put_number
holders_are book is = is.holders zeros refl

-- a book of one update isn't one of none
one_count : (book : Book) → IsBookOf [] book → IsBookOf (receipt 3 ∷ []) book → ⊥
one_count book none one = let zero_is_one : ◌≡◌ {A = ℕ} 0 1 = sym none.count ∙ one.count in cc

-- ---- giving

-- node 1 with a tree of four leaves, and a scheme that takes every signature
abbrev here : Setting
here = record { verifies = λ key seq body signature. true; me = 1; listed = record { node = 1; key = record { root = zeros; height = 2 } } ∷ [] }

abbrev born : List Record
born = Birth 1 zeros ∷ []

-- it wrote the value "a"
abbrev one : Update
one = next_own 1 born (one_change (107 ∷ []) (97 ∷ []))

abbrev id : List ℕ
id = id_of_update one

abbrev holding : List Record
holding = born ++ OwnPut one ((97 ∷ []) ∷ []) ∷ []

-- another node took that update, but not its value
abbrev lacking : List Record
lacking = born ++ Foreign (record { statement = statements.Update one; body = []; signature = [] }) ∷ []

-- its own update and value: a receipt, by the next own update
is_given : GivesReceipts here holding (id ∷ []) (Ok (put_done_of (next_own 1 holding (receipt_changes (id ∷ []))))) (holding ++ receipt_records here holding (id ∷ []))
unfolding sha256 first_words schedule rounds compress hash_after digest_bytes id_of_update update_body update_fields numeral number bytes_of list_of dep record_text tagged birth own_put inner signed statement voucher_body voucher_fields rest_of foreign_leaves leaves_of next_own next_entries precedes_named prev_of named past by_id put_by_id history_hash history_text limit_of_put limit_of_own spent_by tips_of collides_by has_id leaf_count key_of full_with no_receipt holds first_values receipt_key
is_given = (refl, (refl, (refl, refl)))

-- no receipt without the value, and it is said for which id
lacks_its_value : no_receipt lacking (id ∷ []) ≡ Some (lacks_value id)
unfolding sha256 first_words schedule rounds compress hash_after digest_bytes id_of_update update_body update_fields numeral number bytes_of list_of dep next_own next_entries precedes_named prev_of named past by_id put_by_id history_hash history_text leaves_of no_receipt has_id holds first_values
lacks_its_value = refl

refused : GivesReceipts here lacking (id ∷ []) (Err (give.NoValue id)) lacking
refused = (lacks_its_value, refl)

not_given : (done : PutDone) (then : List Record) → GivesReceipts here lacking (id ∷ []) (Ok done) then → ⊥
not_given done then g = let none : Some (lacks_value id) ≡ None = sym lacks_its_value ∙ g.0 in cc

-- an id that no update has comes before a value that isn't held
unknown_first : GivesReceipts here lacking (id ∷ zeros ∷ []) (Err (give.Unknown zeros)) lacking
unfolding sha256 first_words schedule rounds compress hash_after digest_bytes id_of_update update_body update_fields numeral number bytes_of list_of dep next_own next_entries precedes_named prev_of named past by_id put_by_id history_hash history_text leaves_of no_receipt has_id holds first_values
unknown_first = (refl, refl)

-- four statements were signed, and no leaf is left for a receipt that is due
abbrev used_up : List Record
used_up = holding ++ OwnVoucher (record { node = 1; seq = 1; ids = [] }) ∷ OwnVoucher (record { node = 1; seq = 2; ids = [] }) ∷ OwnVoucher (record { node = 1; seq = 3; ids = [] }) ∷ []

no_leaf : GivesReceipts here used_up (id ∷ []) (Err (give.Spent 4)) used_up
unfolding sha256 first_words schedule rounds compress hash_after digest_bytes id_of_update update_body update_fields numeral number bytes_of list_of dep leaves_of next_own next_entries precedes_named prev_of named past by_id put_by_id history_hash history_text limit_of_put limit_of_own spent_by has_id leaf_count key_of no_receipt holds first_values
no_leaf = (refl, (refl, refl))
