-- A worked checkpoint: what is below it, who signed it, what is trimmed, and which statements name it.
use Rattle.std.proofs.Common.{◌≡◌, ℕ, List, [], ◌∷◌, ◌++◌, replicate, true, false, refl}
use Rattle.std.specs.Prelude.{codes}
use Rattle.sha2.specs.Sha256.{sha256, first_words, schedule, rounds, compress, hash_after, digest_bytes}
use Rattle.depot_base.specs.Cursor.{numeral}
use Rattle.depot_base.specs.Format.{number, bytes_of, list_of}
use Rattle.depot_base.specs.Parts.{dep}
use Rattle.depot_base.specs.Zeros.{zeros}
use Rattle.depot_base.specs.Writes.{put_one, one_change}
use Rattle.depot_base.specs.declared.update.Update.{Update}
use Rattle.depot_base.specs.declared.statement.Statement.TheVariants as statements
use Rattle.depot_base.specs.declared.record.Record.{Record}
use Rattle.depot_base.specs.declared.record.Record.TheVariants.{Birth, OwnPut, Foreign}
use Rattle.depot_model.specs.exchange.Bundle.{is_covered}
use Rattle.depot_model.specs.exchange.Hello.{hello_leaf}
use Rattle.depot_model.specs.updates.History.{leaves_of, put_by_id, by_id, history_text, history_hash}
use Rattle.depot_model.specs.journals.Journal.{has_id, named, prev_of}
use Rattle.depot_model.specs.updates.Order.{past}
use Rattle.depot_model.specs.checks.Own.{precedes_named, next_entries, next_own}
use Rattle.depot_model.specs.texts.Texts.{update_fields, update_body, id_of_update}
use Rattle.depot_model.specs.lists.Insertion.{insert_by, order_by}
use Rattle.depot_model.specs.updates.LatestList.{latest_in}
use Rattle.depot_model.specs.readers.Checkpoints.{checkpoint, text_of_checkpoint, checkpoint_key, is_checkpoint_key}
use Rattle.depot_model.specs.readers.Trimming.{below, is_signed_by, is_trimmed, trimmed, names}

-- ---- two puts of a key, and a checkpoint over the second

abbrev born : ℕ → List Record
born n = Birth n zeros ∷ []

abbrev one : Update
one = next_own 1 (born 1) (one_change (107 ∷ []) (97 ∷ []))

abbrev first : List Record
first = born 1 ++ OwnPut one ((97 ∷ []) ∷ []) ∷ []

abbrev two : Update
two = next_own 1 first (one_change (107 ∷ []) (98 ∷ []))

abbrev second : List Record
second = first ++ OwnPut two ((98 ∷ []) ∷ []) ∷ []

abbrev ids : List (List ℕ)
ids = id_of_update two ∷ []

abbrev text : List ℕ
text = text_of_checkpoint (record { roster = zeros; leaves = record { writer = 1; id = id_of_update two } ∷ [] })

-- node 1 puts its text
abbrev of_one : Update
of_one = next_own 1 second (one_change (checkpoint_key text) text)

abbrev told : Update → Record
told u = Foreign (record { statement = statements.Update u; body = []; signature = [] })

-- node 2 takes all three
abbrev taken : List Record
taken = born 2 ++ told one ∷ told two ∷ told of_one ∷ []

-- and signs
abbrev of_two : Update
of_two = next_own 2 taken (one_change (checkpoint_key text) text)

abbrev signed : List Record
signed = taken ++ OwnPut of_two (text ∷ []) ∷ []

-- ---- what is below, and who signed

both_below : below signed ids ≡ one ∷ two ∷ []
unfolding sha256 first_words schedule rounds compress hash_after digest_bytes numeral number bytes_of list_of dep hello_leaf update_fields update_body id_of_update leaves_of put_by_id by_id history_text history_hash has_id named prev_of past precedes_named next_entries next_own is_covered checkpoint checkpoint_key
both_below = refl

first_signed : is_signed_by taken text ids 1 ≡ true
unfolding sha256 first_words schedule rounds compress hash_after digest_bytes numeral number bytes_of list_of dep hello_leaf update_fields update_body id_of_update leaves_of put_by_id by_id history_text history_hash has_id named prev_of past precedes_named next_entries next_own is_covered checkpoint checkpoint_key is_signed_by
first_signed = refl

-- the second hadn't yet
second_unsigned : is_signed_by taken text ids 2 ≡ false
unfolding sha256 first_words schedule rounds compress hash_after digest_bytes numeral number bytes_of list_of dep hello_leaf update_fields update_body id_of_update leaves_of put_by_id by_id history_text history_hash has_id named prev_of past precedes_named next_entries next_own is_covered checkpoint checkpoint_key is_signed_by
second_unsigned = refl

second_signed : is_signed_by signed text ids 2 ≡ true
unfolding sha256 first_words schedule rounds compress hash_after digest_bytes numeral number bytes_of list_of dep hello_leaf update_fields update_body id_of_update leaves_of put_by_id by_id history_text history_hash has_id named prev_of past precedes_named next_entries next_own is_covered checkpoint checkpoint_key is_signed_by
second_signed = refl

-- a put of another text under the key signs nothing
other_text : is_signed_by (taken ++ OwnPut (next_own 2 taken (one_change (checkpoint_key text) (97 ∷ []))) ((97 ∷ []) ∷ []) ∷ []) text ids 2 ≡ false
unfolding sha256 first_words schedule rounds compress hash_after digest_bytes numeral number bytes_of list_of dep hello_leaf update_fields update_body id_of_update leaves_of put_by_id by_id history_text history_hash has_id named prev_of past precedes_named next_entries next_own is_covered checkpoint checkpoint_key is_signed_by
other_text = refl

-- nor does a put of the text by one who hasn't seen what is listed
not_seen : is_signed_by (taken ++ told (next_own 3 (born 3) (one_change (checkpoint_key text) text)) ∷ []) text ids 3 ≡ false
unfolding sha256 first_words schedule rounds compress hash_after digest_bytes numeral number bytes_of list_of dep hello_leaf update_fields update_body id_of_update leaves_of put_by_id by_id history_text history_hash has_id named prev_of past precedes_named next_entries next_own is_covered checkpoint checkpoint_key is_signed_by
not_seen = refl

-- ---- what is trimmed

-- the older put alone: the other is the latest of its key there
one_trimmed : trimmed signed ids ≡ one ∷ []
unfolding sha256 first_words schedule rounds compress hash_after digest_bytes numeral number bytes_of list_of dep hello_leaf update_fields update_body id_of_update leaves_of put_by_id by_id history_text history_hash has_id named prev_of past precedes_named next_entries next_own is_covered checkpoint checkpoint_key insert_by order_by latest_in is_trimmed
one_trimmed = refl

-- ---- what names it

-- a statement of node 1 with the trimmed one as its prev
back_to_one : names (statements.Update (record { writer = 1; seq = 4; clock = 9; prev = id_of_update one; writes = put_one (107 ∷ []) zeros 1; deps = []; history = zeros })) one ≡ true
unfolding sha256 first_words schedule rounds compress hash_after digest_bytes numeral number bytes_of list_of dep hello_leaf update_fields update_body id_of_update leaves_of put_by_id by_id history_text history_hash has_id named prev_of past precedes_named next_entries next_own is_covered checkpoint checkpoint_key names
back_to_one = refl

-- another first update of its writer, since both have 32 zero bytes as prev
another_first : names (statements.Update (record { writer = 1; seq = 4; clock = 9; prev = zeros; writes = put_one (107 ∷ []) zeros 1; deps = []; history = zeros })) one ≡ true
unfolding names next_own
another_first = refl

-- a voucher of its seq
voucher_of_seq : names (statements.Voucher (record { node = 1; seq = 0; ids = [] })) one ≡ true
unfolding names next_own
voucher_of_seq = refl

-- not the first update of another writer, nor a voucher of another seq
another_writer : names (statements.Update (record { writer = 3; seq = 0; clock = 1; prev = zeros; writes = put_one (107 ∷ []) zeros 1; deps = []; history = zeros })) one ≡ false
unfolding names next_own
another_writer = refl

another_seq : names (statements.Voucher (record { node = 1; seq = 5; ids = [] })) one ≡ false
unfolding names next_own
another_seq = refl

-- nor what its writer puts next
puts_next : names (statements.Update (next_own 1 (second ++ OwnPut of_one (text ∷ []) ∷ []) (one_change (107 ∷ []) (99 ∷ [])))) one ≡ false
unfolding sha256 first_words schedule rounds compress hash_after digest_bytes numeral number bytes_of list_of dep hello_leaf update_fields update_body id_of_update leaves_of put_by_id by_id history_text history_hash has_id named prev_of past precedes_named next_entries next_own is_covered checkpoint checkpoint_key names
puts_next = refl

-- ---- keys

key_of_text : is_checkpoint_key (checkpoint_key (1 ∷ [])) ≡ true
unfolding sha256 first_words schedule rounds compress hash_after digest_bytes checkpoint_key is_checkpoint_key
key_of_text = refl

key_too_short : is_checkpoint_key (codes "checkpoint:" ++ replicate 31 0) ≡ false
unfolding is_checkpoint_key
key_too_short = refl
