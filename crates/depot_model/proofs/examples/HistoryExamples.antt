-- Worked examples of pasts, leaves, histories and the order of entries, computed with real digests.
use Rattle.std.proofs.Common.{◌≡◌, [], ◌∷◌, ◌++◌, true, false, refl, not}
use Rattle.sha2.specs.Sha256.{sha256, first_words, schedule, rounds, compress, hash_after, digest_bytes}
use Rattle.depot_base.specs.Cursor.{numeral}
use Rattle.depot_base.specs.Format.{number, bytes_of, list_of}
use Rattle.depot_base.specs.Parts.{dep}
use Rattle.depot_base.specs.declared.record.Record.TheVariants.{OwnPut}
use Rattle.depot_base.specs.declared.update.Update.{Update}
use Rattle.depot_model.specs.updates.History.{leaves_of, is_lower, put_by_id, by_id, history_text, history_hash, greatest_clock}
use Rattle.depot_model.specs.updates.Order.{past}
use Rattle.depot_model.specs.checks.Own.{entry_of}
use Rattle.depot_model.specs.checks.Room.{foreign_leaves}
use Rattle.depot_model.specs.texts.Texts.{update_fields, voucher_fields, update_body, statement, id_of_update}
use Rattle.depot_model.proofs.examples.Cast.{empty_history, next_of, one, two, two_id, two_entry, two_seen, two_more, three, nine, nine_id, nine_seen, nine_more, nine_other, born, took}

-- node 9 has seen the first update of 3, and by it that of 2
abbrev nine_behind : Update
nine_behind = record nine { clock = 3; deps = entry_of three ∷ [] }

record Pasts : Type 0 where
  -- what it names, and what that names in turn, in the order of the list
  pub of_entry : past three (two ∷ nine ∷ []) ≡ two ∷ []
  pub of_entries : past nine_behind (two ∷ one ∷ three ∷ []) ≡ two ∷ three ∷ []
  -- the prev too
  pub of_prev : past two_more (nine ∷ two ∷ []) ≡ two ∷ []
  -- not what is concurrent with it or after it
  pub of_first : past two (nine ∷ one ∷ []) ≡ []

pasts : Pasts
unfolding sha256 first_words schedule rounds compress hash_after digest_bytes numeral bytes_of list_of number dep past id_of_update statement update_body update_fields voucher_fields
pasts = record { of_entry = refl; of_entries = refl; of_prev = refl; of_first = refl }

record LeavesOfASet : Type 0 where
  -- what is a prev of another isn't one
  pub last_of_chain : leaves_of (two ∷ two_more ∷ []) ≡ two_more ∷ []
  -- what is only named by an entry is
  pub named : leaves_of (two ∷ three ∷ []) ≡ two ∷ three ∷ []
  -- both ends of a fork are
  pub fork : leaves_of (nine ∷ nine_more ∷ record nine_more { seq = 2 } ∷ []) ≡ nine_more ∷ record nine_more { seq = 2 } ∷ []
  -- those of other writers
  pub others : foreign_leaves 1 (born ++ OwnPut one ([] ∷ []) ∷ took two ∷ took two_more ∷ took three ∷ []) ≡ two_more ∷ three ∷ []

leaves_of_a_set : LeavesOfASet
unfolding sha256 first_words schedule rounds compress hash_after digest_bytes numeral bytes_of list_of number dep leaves_of foreign_leaves id_of_update statement update_body update_fields voucher_fields
leaves_of_a_set = record { last_of_chain = refl; named = refl; fork = refl; others = refl }

-- ---- the digests that the examples write out

record WrittenOut : Type 0 where
  pub nothing : history_hash [] ≡ empty_history
  pub id_of_two : id_of_update two ≡ two_id
  pub id_of_nine : id_of_update nine ≡ nine_id
  pub seen_two : history_hash (two ∷ []) ≡ two_seen
  pub seen_nine : history_hash (nine ∷ []) ≡ nine_seen
  pub next_of_two : next_of two ≡ two_more
  pub entry_of_two : entry_of two ≡ two_entry

written_out : WrittenOut
unfolding sha256 first_words schedule rounds compress hash_after digest_bytes numeral bytes_of list_of number dep by_id history_hash history_text leaves_of put_by_id id_of_update statement update_body update_fields voucher_fields
written_out = record { nothing = refl; id_of_two = refl; id_of_nine = refl; seen_two = refl; seen_nine = refl; next_of_two = refl; entry_of_two = refl }

-- ---- histories

record HistoryHashes : Type 0 where
  -- that of nothing is SHA-256 of no bytes
  pub nothing : history_hash [] ≡ sha256 []
  -- writer in 2 bytes, clock in 8, id, of each leaf
  pub text_of_one : history_text (two ∷ []) ≡ 0 ∷ 2 ∷ 0 ∷ 0 ∷ 0 ∷ 0 ∷ 0 ∷ 0 ∷ 0 ∷ 1 ∷ two_id
  -- by writer, in whatever order they are given
  pub text_of_two : history_text (three ∷ two ∷ []) ≡ history_text (two ∷ []) ++ 0 ∷ 3 ∷ 0 ∷ 0 ∷ 0 ∷ 0 ∷ 0 ∷ 0 ∷ 0 ∷ 2 ∷ id_of_update three
  -- of a chain the last
  pub text_of_chain : history_text (two ∷ two_more ∷ []) ≡ 0 ∷ 2 ∷ 0 ∷ 0 ∷ 0 ∷ 0 ∷ 0 ∷ 0 ∷ 0 ∷ 2 ∷ id_of_update two_more
  -- SHA-256 of it
  pub hash : history_hash (two ∷ three ∷ []) ≡ sha256 (history_text (three ∷ two ∷ []))
  -- the greatest clock, wherever it is
  pub greatest_first : greatest_clock (three ∷ two ∷ []) ≡ 2
  pub greatest_last : greatest_clock (two ∷ three ∷ []) ≡ 2
  pub greatest_of_none : greatest_clock [] ≡ 0

history_hashes : HistoryHashes
unfolding sha256 first_words schedule rounds compress hash_after digest_bytes numeral bytes_of list_of number dep by_id history_hash history_text leaves_of put_by_id id_of_update statement update_body update_fields voucher_fields
history_hashes = record { nothing = refl; text_of_one = refl; text_of_two = refl; text_of_chain = refl; hash = refl; greatest_first = refl; greatest_last = refl; greatest_of_none = refl }

record ByWriterAndId : Type 0 where
  -- the writer first
  pub writer_first : is_lower two three ≡ true
  pub writer_first_not : is_lower three two ≡ false
  -- of one writer the id: exactly one of the two is lower, and none than itself
  pub one_way : is_lower nine nine_other ≡ not (is_lower nine_other nine)
  pub not_itself : is_lower nine nine ≡ false
  pub sorted : by_id (nine ∷ three ∷ two ∷ []) ≡ two ∷ three ∷ nine ∷ []
  -- one list whichever comes first
  pub one_list : by_id (nine ∷ nine_other ∷ []) ≡ by_id (nine_other ∷ nine ∷ [])

by_writer_and_id : ByWriterAndId
unfolding sha256 first_words schedule rounds compress hash_after digest_bytes numeral bytes_of list_of number dep by_id put_by_id id_of_update statement update_body update_fields voucher_fields
by_writer_and_id = record { writer_first = refl; writer_first_not = refl; one_way = refl; not_itself = refl; sorted = refl; one_list = refl }
