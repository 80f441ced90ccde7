-- Worked examples of the readings of a journal: what its records say, and what they don't.
use Rattle.std.proofs.Common.{◌≡◌, List, [], ◌∷◌, ◌++◌, true, false, Some, None, refl}
use Rattle.sha2.specs.Sha256.{sha256, first_words, schedule, rounds, compress, hash_after, digest_bytes}
use Rattle.depot_base.specs.Writes.{put_one}
use Rattle.depot_base.specs.Cursor.{numeral}
use Rattle.depot_base.specs.Format.{number, bytes_of, list_of}
use Rattle.depot_base.specs.Parts.{dep}
use Rattle.depot_base.specs.Zeros.{zeros}
use Rattle.depot_base.specs.declared.record.Record.TheVariants.{OwnPut, OwnVoucher, Conviction, Held}
use Rattle.depot_base.specs.declared.record.Record.{Record}
use Rattle.depot_base.specs.declared.statement.Statement.TheVariants as statement
use Rattle.depot_base.specs.declared.update.Update.{Update}
use Rattle.depot_base.specs.declared.voucher.Voucher.{Voucher}
use Rattle.depot_model.specs.updates.History.{leaves_of, put_by_id, by_id, history_text, history_hash}
use Rattle.depot_model.specs.journals.Journal.{accepted, own, foreign, convicted, vouched, first_values, held, has_id, named, prev_of, last_own, is_convicted, is_vouched, holds_hash, holds, seen_under, is_wanted}
use Rattle.depot_base.specs.declared.write.Wrote.TheVariants.{Gone}
use Rattle.depot_model.specs.texts.Contents.{held_value, not_held, gone}
use Rattle.depot_model.specs.texts.Texts.{update_fields, voucher_fields, update_body, statement, id_of_update}
use Rattle.depot_model.proofs.examples.Cast.{mark, signed_update, signed_voucher, next_of, one, two, two_id, three, nine, vouch, against_nine, born, took, took_voucher, from_two}

-- ---- a journal with a record of each kind

-- node 2 vouches for the update of node 3
abbrev for_three : Voucher
for_three = vouch 2 1 (id_of_update three ∷ [])

-- this node vouches for the update of node 2
abbrev for_two : Voucher
for_two = vouch 1 1 (two_id ∷ [])

abbrev journal : List Record
journal = born ++ OwnPut one ((49 ∷ []) ∷ []) ∷ took two ∷ Held (50 ∷ []) ∷ took_voucher for_three ∷ OwnVoucher for_two ∷ Conviction against_nine ∷ took three ∷ []

record EachReading : Type 0 where
  -- own and foreign updates, in their order
  pub all_accepted : accepted journal ≡ one ∷ two ∷ three ∷ []
  -- own updates and vouchers
  pub all_own : own journal ≡ statement.Update one ∷ statement.Voucher for_two ∷ []
  -- what others signed, but for the halves of proofs
  pub all_foreign : foreign journal ≡ signed_update two ∷ signed_voucher for_three ∷ signed_update three ∷ []
  -- the node that the proof names
  pub all_convicted : convicted journal ≡ 9 ∷ []
  -- what vouchers of others name; own vouchers name nothing
  pub all_vouched : vouched journal ≡ id_of_update three ∷ []
  -- the values of own puts, and those that were taken
  pub all_held : held journal ≡ (49 ∷ []) ∷ (50 ∷ []) ∷ []
  -- the last own update; the voucher after it is none
  pub the_last_own : last_own journal ≡ id_of_update one

each_reading : EachReading
unfolding sha256 first_words schedule rounds compress hash_after digest_bytes numeral bytes_of list_of number dep first_values id_of_update statement update_body update_fields voucher_fields
each_reading = record { all_accepted = refl; all_own = refl; all_foreign = refl; all_convicted = refl; all_vouched = refl; all_held = refl; the_last_own = refl }

record WhoIsVouchedForAndConvicted : Type 0 where
  pub vouched_for : is_vouched journal (statement.Update three) ≡ true
  pub by_this_node : is_vouched journal (statement.Update two) ≡ false
  pub voucher : is_vouched journal (statement.Voucher for_three) ≡ false
  pub is_convicted_9 : is_convicted journal 9 ≡ true
  pub is_convicted_2 : is_convicted journal 2 ≡ false
  -- a later conviction takes no voucher back
  pub kept : vouched (born ++ took_voucher (vouch 9 0 (two_id ∷ [])) ∷ Conviction against_nine ∷ []) ≡ two_id ∷ []

who_is_vouched_for_and_convicted : WhoIsVouchedForAndConvicted
unfolding sha256 first_words schedule rounds compress hash_after digest_bytes numeral bytes_of list_of number dep is_convicted is_vouched id_of_update statement update_body update_fields voucher_fields
who_is_vouched_for_and_convicted = record { vouched_for = refl; by_this_node = refl; voucher = refl; is_convicted_9 = refl; is_convicted_2 = refl; kept = refl }

record LastOwnUpdate : Type 0 where
  -- none
  pub none : last_own from_two ≡ zeros
  -- the last of two, not the first
  pub last : last_own (born ++ OwnPut one ([] ∷ []) ∷ OwnPut (next_of one) ([] ∷ []) ∷ took two ∷ []) ≡ id_of_update (next_of one)

last_own_update : LastOwnUpdate
unfolding sha256 first_words schedule rounds compress hash_after digest_bytes numeral bytes_of list_of number dep by_id history_hash history_text leaves_of put_by_id id_of_update statement update_body update_fields voucher_fields
last_own_update = record { none = refl; last = refl }

-- ---- values

abbrev two_valued : Update
two_valued = record two { writes = put_one (107 ∷ []) (sha256 (50 ∷ [])) 1 }

abbrev valued : List Record
valued = born ++ took two_valued ∷ Held (50 ∷ []) ∷ []

record HeldValues : Type 0 where
  -- a value that comes again is held once
  pub once : held (born ++ OwnPut one ((49 ∷ []) ∷ []) ∷ Held (50 ∷ []) ∷ Held (49 ∷ []) ∷ []) ≡ (49 ∷ []) ∷ (50 ∷ []) ∷ []
  -- the value of an update: of its hash and its length
  pub of_update : seen_under valued (107 ∷ []) two_valued ≡ held_value (50 ∷ [])
  pub of_no_hash : seen_under valued (107 ∷ []) (record two_valued { writes = put_one (107 ∷ []) zeros 1 }) ≡ not_held
  pub of_no_length : seen_under valued (107 ∷ []) (record two_valued { writes = put_one (107 ∷ []) (sha256 (50 ∷ [])) 2 }) ≡ not_held
  pub not_yet : seen_under (born ++ took two_valued ∷ []) (107 ∷ []) two_valued ≡ not_held
  -- a key that it doesn't write, and one that it deletes, whatever is held
  pub of_no_key : seen_under valued (108 ∷ []) two_valued ≡ not_held
  pub deleted : seen_under valued (107 ∷ []) (record two_valued { writes = record { key = 107 ∷ []; what = Gone } ∷ [] }) ≡ gone
  -- each key its own, and not the first
  pub second_key : seen_under valued (108 ∷ []) (record two_valued { writes = record { key = 107 ∷ []; what = Gone } ∷ put_one (108 ∷ []) (sha256 (50 ∷ [])) 1 }) ≡ held_value (50 ∷ [])
  -- a value of this hash, and of this length too
  pub hash : holds_hash valued (sha256 (50 ∷ [])) ≡ true
  pub no_hash : holds_hash valued (sha256 (51 ∷ [])) ≡ false
  pub hash_and_length : holds valued (sha256 (50 ∷ [])) 1 ≡ true
  pub other_length : holds valued (sha256 (50 ∷ [])) 2 ≡ false
  -- wanted: one update names both
  pub wanted : is_wanted (nine ∷ two ∷ []) (mark 50) 1 ≡ true
  pub wanted_apart : is_wanted (nine ∷ record two { writes = put_one (107 ∷ []) (mark 50) 2 } ∷ []) (mark 50) 1 ≡ false

held_values : HeldValues
unfolding sha256 first_words schedule rounds compress hash_after digest_bytes numeral bytes_of list_of number dep first_values holds holds_hash is_wanted seen_under statement update_fields voucher_fields
held_values = record { once = refl; of_update = refl; of_no_hash = refl; of_no_length = refl; not_yet = refl; of_no_key = refl; deleted = refl; second_key = refl; hash = refl; no_hash = refl; hash_and_length = refl; other_length = refl; wanted = refl; wanted_apart = refl }

-- ---- by id

record UpdatesById : Type 0 where
  pub found : named (one ∷ two ∷ []) two_id ≡ Some two
  pub not_found : named (one ∷ []) two_id ≡ None
  pub has : has_id (one ∷ two ∷ []) two_id ≡ true
  pub has_not : has_id (one ∷ []) two_id ≡ false
  -- as a prev 32 zero bytes name nothing
  pub prev : prev_of (one ∷ two ∷ []) two_id ≡ Some two
  pub no_prev : prev_of (one ∷ []) zeros ≡ None

updates_by_id : UpdatesById
unfolding sha256 first_words schedule rounds compress hash_after digest_bytes numeral bytes_of list_of number dep has_id named prev_of id_of_update statement update_body update_fields voucher_fields
updates_by_id = record { found = refl; not_found = refl; has = refl; has_not = refl; prev = refl; no_prev = refl }
