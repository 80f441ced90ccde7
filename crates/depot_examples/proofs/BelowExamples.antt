-- A worked reader of three puts of a key, two of them trimmed: which of them a statement is below, and what the reader
-- keeps.
use Rattle.std.proofs.Common.{◌≡◌, ℕ, List, [], ◌∷◌, ◌++◌, true, Some, None, refl}
use Rattle.sha2.specs.Sha256.{sha256, first_words, schedule, rounds, compress, hash_after, digest_bytes}
use Rattle.depot_base.specs.Cursor.{numeral}
use Rattle.depot_base.specs.Format.{number, bytes_of, list_of}
use Rattle.depot_base.specs.Parts.{dep}
use Rattle.depot_base.specs.Zeros.{zeros}
use Rattle.depot_base.specs.Writes.{put_one, one_change}
use Rattle.depot_base.specs.declared.key.RosterEntry.{RosterEntry}
use Rattle.depot_base.specs.declared.update.Dep.{Dep}
use Rattle.depot_base.specs.declared.update.Update.{Update}
use Rattle.depot_base.specs.declared.statement.Signed.{Signed}
use Rattle.depot_base.specs.declared.statement.Statement.TheVariants as statements
use Rattle.depot_base.specs.declared.record.Record.{Record}
use Rattle.depot_base.specs.declared.record.Record.TheVariants.{Birth, OwnPut, Foreign, Held}
use Rattle.depot_model.specs.exchange.Bundle.{is_covered}
use Rattle.depot_model.specs.checks.Checks.{Setting, given_statement, is_known}
use Rattle.depot_model.specs.texts.Contents.{held_value}
use Rattle.depot_model.specs.updates.History.{leaves_of, put_by_id, by_id, history_text, history_hash}
use Rattle.depot_model.specs.lists.Insertion.{insert_by, order_by}
use Rattle.depot_model.specs.journals.Journal.{first_values, has_id, is_wanted, named, prev_of}
use Rattle.depot_model.specs.updates.LatestList.{latest_in}
use Rattle.depot_model.specs.updates.Order.{past}
use Rattle.depot_model.specs.checks.Own.{precedes_named, next_entries, next_own}
use Rattle.depot_model.specs.readers.Pruning.{below_of}
use Rattle.depot_model.specs.readers.Readers.{Reader, reader_of, reader_outcome, kept, seen_by_reader, stands_below, shown_by_reader}
use Rattle.depot_model.specs.texts.Roster.{key_of, is_signed}
use Rattle.depot_model.specs.texts.Texts.{update_fields, voucher_fields, statement, update_body, id_of_update, id_of_statement}
use Rattle.depot_model.specs.readers.Trimming.{is_trimmed, trimmed, names}

-- ---- node 1 puts three values under a key, and node 2 takes them

abbrev k : List ℕ
k = 107 ∷ []

abbrev born : ℕ → List Record
born n = Birth n zeros ∷ []

abbrev one : Update
one = next_own 1 (born 1) (one_change k (97 ∷ []))

abbrev first : List Record
first = born 1 ++ OwnPut one ((97 ∷ []) ∷ []) ∷ []

abbrev two : Update
two = next_own 1 first (one_change k (98 ∷ []))

abbrev second : List Record
second = first ++ OwnPut two ((98 ∷ []) ∷ []) ∷ []

abbrev three : Update
three = next_own 1 second (one_change k (99 ∷ []))

abbrev told : Update → Record
told u = Foreign (record { statement = statements.Update u; body = []; signature = [] })

abbrev taken : List Record
taken = born 2 ++ told one ∷ Held (97 ∷ []) ∷ told two ∷ told three ∷ Held (99 ∷ []) ∷ []

abbrev entry : ℕ → RosterEntry
entry n = record { node = n; key = record { root = zeros; height = 4 } }

abbrev here : Setting
here = record { verifies = λ key seq body signature. true; me = 2; listed = entry 1 ∷ entry 2 ∷ [] }

-- the reader of node 2 where the last put is listed
abbrev reader : Reader
reader = reader_of here taken (id_of_update three ∷ [])

two_trimmed : trimmed taken (id_of_update three ∷ []) ≡ one ∷ two ∷ []
unfolding sha256 first_words schedule rounds compress hash_after digest_bytes numeral number bytes_of list_of dep update_fields update_body id_of_update leaves_of put_by_id by_id history_text history_hash has_id named prev_of past precedes_named next_entries next_own is_covered insert_by order_by latest_in is_trimmed
two_trimmed = refl

-- ---- below which of them

-- a later statement of node 1 with this prev and these entries
abbrev later : List ℕ → List Dep → Signed
later prev deps = record { statement = statements.Update (record { writer = 1; seq = 4; clock = 9; prev = prev; writes = put_one k zeros 1; deps = deps; history = zeros }); body = []; signature = [] }

-- one whose prev was trimmed is below it
below_its_prev : reader_outcome reader (given_statement (later (id_of_update one) [])) ≡ stands_below (id_of_update one)
unfolding sha256 first_words schedule rounds compress hash_after digest_bytes numeral number bytes_of list_of dep update_fields voucher_fields statement update_body id_of_update id_of_statement leaves_of put_by_id by_id history_text history_hash has_id named prev_of past precedes_named next_entries next_own is_covered insert_by order_by latest_in is_trimmed names is_known key_of is_signed below_of reader_of reader_outcome
below_its_prev = refl

-- of two trimmed updates that it names, the first in the order of the journal is named
below_the_first : reader_outcome reader (given_statement (later (id_of_update two) (record { writer = 1; clock = 1; id = id_of_update one } ∷ []))) ≡ stands_below (id_of_update one)
unfolding sha256 first_words schedule rounds compress hash_after digest_bytes numeral number bytes_of list_of dep update_fields voucher_fields statement update_body id_of_update id_of_statement leaves_of put_by_id by_id history_text history_hash has_id named prev_of past precedes_named next_entries next_own is_covered insert_by order_by latest_in is_trimmed names is_known key_of is_signed below_of reader_of reader_outcome
below_the_first = refl

-- ---- what is kept

record WhatIsKept : Type 0 where
  pub trimmed_one : named (kept reader) (id_of_update one) ≡ None
  pub kept_last : named (kept reader) (id_of_update three) ≡ Some three
  -- the value of a trimmed update is dropped, and that of the latest is shown
  pub values : reader.held ≡ (99 ∷ []) ∷ []
  pub shown : shown_by_reader reader k ≡ record { update = three; seen = held_value (99 ∷ []) } ∷ []

what_is_kept : WhatIsKept
unfolding sha256 first_words schedule rounds compress hash_after digest_bytes numeral number bytes_of list_of dep update_fields update_body id_of_update leaves_of put_by_id by_id history_text history_hash has_id named prev_of past precedes_named next_entries next_own is_covered insert_by order_by latest_in is_trimmed first_values is_wanted kept seen_by_reader reader_of
what_is_kept = record { trimmed_one = refl; kept_last = refl; values = refl; shown = refl }
