-- Worked examples of puts of several keys and of deletions: what is written, which records are lawful, and what a read shows.
use Rattle.std.proofs.Common.{◌≡◌, ℕ, List, [], ◌∷◌, ◌++◌, length, true, false, Some, None, refl, ap, arith, rules}
use Rattle.sha2.specs.Sha256.{sha256, first_words, schedule, rounds, compress, hash_after, digest_bytes}
use Rattle.depot_base.specs.Closed.{rest_of}
use Rattle.depot_base.specs.Cursor.{numeral}
use Rattle.depot_base.specs.Format.{number, bytes_of, inner, list_of}
use Rattle.depot_base.specs.Parts.{dep, roster_entry, write, marked}
use Rattle.depot_base.specs.declared.record.Record.TheVariants.{Birth, OwnPut}
use Rattle.depot_base.specs.declared.record.Record.{Record}
use Rattle.depot_base.specs.declared.update.Update.{Update}
use Rattle.depot_model.specs.checks.Checks.{sight, content_checks, opponent, forked, refused_as_convicted, statement_checks, proof_checks, first_failed_check, is_known, answer_to, due, named_opponent, added, growth}
use Rattle.depot_model.specs.updates.Contradictions.{is_of_kind, contradicts, kind_of}
use Rattle.depot_model.specs.updates.Conviction.{proof_of}
use Rattle.depot_model.specs.updates.History.{leaves_of, put_by_id, by_id, history_text, history_hash}
use Rattle.depot_model.specs.updates.Judgement.{points}
use Rattle.depot_model.specs.journals.Journal.{seen_under, first_values, has_id, named, prev_of, is_convicted, is_vouched, holds_hash, is_wanted, holds}
use Rattle.depot_model.specs.journals.Lawful.{IsAllowed}
use Rattle.depot_model.specs.updates.Order.{past}
use Rattle.depot_model.specs.checks.Own.{precedes_named, next_entries, next_own, leaf_count, values_of, changes_of}
use Rattle.depot_model.specs.texts.Records.{birth, own_put, tagged, record_text}
use Rattle.depot_model.specs.checks.Room.{foreign_leaves, full_with}
use Rattle.depot_model.specs.texts.Roster.{key_of, is_signed}
use Rattle.depot_model.specs.texts.Texts.{update_fields, voucher_fields, update_body, voucher_body, statement, signed, proof, roster, id_of_update, id_of_statement, hash_of_roster}
use Rattle.depot_model.proofs.of_texts.FieldFacts.{update_facts, own_put_facts}
use Rattle.depot_model.proofs.examples.Cast.{members, here, one, two, took}
use Rattle.depot_base.specs.declared.write.Wrote.{Wrote}
use Rattle.depot_base.specs.declared.write.Wrote.TheVariants.{Put, Gone}
use Rattle.depot_base.specs.declared.write.Write.{Write}
use Rattle.depot_base.specs.declared.write.Change.{Change}
use Rattle.depot_model.specs.texts.Contents.{held_value, not_held, gone, writes, names_value, value_for}
use Rattle.depot_model.specs.exchange.Hello.{lacking}
use Rattle.depot_model.specs.checks.Vouching.{put_rising, rising}

abbrev lawful_born : List Record
lawful_born = Birth 1 (hash_of_roster members) ∷ []

-- a value of one byte under a key of one byte, and the deletion of such a key
abbrev gives : ℕ → ℕ → Change
gives key value = record { key = key ∷ []; value = Some (value ∷ []) }

abbrev deletes : ℕ → Change
deletes key = record { key = key ∷ []; value = None }

-- node 1 gives "k" and "m" a value and deletes "l"
abbrev changes : List Change
changes = gives 107 97 ∷ deletes 108 ∷ gives 109 98 ∷ []

abbrev writes_three : List Write
writes_three = record { key = 107 ∷ []; what = Put (sha256 (97 ∷ [])) 1 } ∷ record { key = 108 ∷ []; what = Gone } ∷ record { key = 109 ∷ []; what = Put (sha256 (98 ∷ [])) 1 } ∷ []

abbrev three : Update
three = record one { writes = writes_three }

abbrev put_three : Record
put_three = OwnPut three ((97 ∷ []) ∷ (98 ∷ []) ∷ [])

-- ---- what is written

record WhatIsWritten : Type 0 where
  pub next : next_own 1 lawful_born changes ≡ three
  pub values : values_of changes ≡ (97 ∷ []) ∷ (98 ∷ []) ∷ []
  pub back : changes_of writes_three ((97 ∷ []) ∷ (98 ∷ []) ∷ []) ≡ changes
  -- values that are missing
  pub short : changes_of writes_three ((97 ∷ []) ∷ []) ≡ gives 107 97 ∷ deletes 108 ∷ deletes 109 ∷ []
  pub first_key : writes (107 ∷ []) three ≡ true
  pub deleted_key : writes (108 ∷ []) three ≡ true
  pub other_key : writes (110 ∷ []) three ≡ false
  -- the value of a key is not the first, and a deletion takes none
  pub of_first : value_for (107 ∷ []) writes_three ((97 ∷ []) ∷ (98 ∷ []) ∷ []) ≡ Some (97 ∷ [])
  pub of_deleted : value_for (108 ∷ []) writes_three ((97 ∷ []) ∷ (98 ∷ []) ∷ []) ≡ None
  pub of_last : value_for (109 ∷ []) writes_three ((97 ∷ []) ∷ (98 ∷ []) ∷ []) ≡ Some (98 ∷ [])
  -- hash and length go together
  pub names : names_value three (sha256 (98 ∷ [])) 1 ≡ true
  pub names_not : names_value three (sha256 (98 ∷ [])) 2 ≡ false

what_is_written : WhatIsWritten
unfolding sha256 first_words schedule rounds compress hash_after digest_bytes rest_of numeral bytes_of inner list_of number dep write marked roster_entry added answer_to content_checks due first_failed_check forked growth is_known named_opponent opponent proof_checks points refused_as_convicted sight statement_checks contradicts is_of_kind kind_of proof_of by_id history_hash history_text leaves_of put_by_id first_values seen_under has_id holds_hash is_convicted is_vouched is_wanted named prev_of past leaf_count next_entries next_own precedes_named birth own_put record_text tagged foreign_leaves full_with is_signed key_of hash_of_roster id_of_statement id_of_update proof roster signed statement update_body update_fields voucher_body voucher_fields
what_is_written = record { next = refl; values = refl; back = refl; short = refl; first_key = refl; deleted_key = refl; other_key = refl; of_first = refl; of_deleted = refl; of_last = refl; names = refl; names_not = refl }

-- ---- what is lawful

abbrev first_byte : List ℕ → ℕ
first_byte [] = 0
first_byte (b ∷ bytes) = b

put_is_allowed : IsAllowed here lawful_born put_three
unfolding sha256 first_words schedule rounds compress hash_after digest_bytes rest_of numeral bytes_of inner list_of number dep write marked roster_entry added answer_to content_checks due first_failed_check forked growth is_known named_opponent opponent proof_checks points refused_as_convicted sight statement_checks contradicts is_of_kind kind_of proof_of by_id history_hash history_text leaves_of put_by_id first_values seen_under has_id holds_hash is_convicted is_vouched is_wanted named prev_of past leaf_count next_entries next_own precedes_named birth own_put record_text tagged foreign_leaves full_with is_signed key_of hash_of_roster id_of_statement id_of_update proof roster signed statement update_body update_fields voucher_body voucher_fields
put_is_allowed = record {
  first = refl;
  text = search rules;
  may = record { next = refl; fresh = record { named = λ same. (let byte : first_byte (id_of_update three) ≡ 0 = ap first_byte same in omega (arith, byte)); new = refl }; tips = omega arith; leaf = omega arith };
  room = refl;
}

-- a deletion alone, with no value
abbrev deletion : Update
deletion = record one { writes = record { key = 107 ∷ []; what = Gone } ∷ [] }

deletion_is_allowed : IsAllowed here lawful_born (OwnPut deletion [])
unfolding sha256 first_words schedule rounds compress hash_after digest_bytes rest_of numeral bytes_of inner list_of number dep write marked roster_entry added answer_to content_checks due first_failed_check forked growth is_known named_opponent opponent proof_checks points refused_as_convicted sight statement_checks contradicts is_of_kind kind_of proof_of by_id history_hash history_text leaves_of put_by_id first_values seen_under has_id holds_hash is_convicted is_vouched is_wanted named prev_of past leaf_count next_entries next_own precedes_named birth own_put record_text tagged foreign_leaves full_with is_signed key_of hash_of_roster id_of_statement id_of_update proof roster signed statement update_body update_fields voucher_body voucher_fields
deletion_is_allowed = record {
  first = refl;
  text = search rules;
  may = record { next = refl; fresh = record { named = λ same. (let byte : first_byte (id_of_update deletion) ≡ 0 = ap first_byte same in omega (arith, byte)); new = refl }; tips = omega arith; leaf = omega arith };
  room = refl;
}

-- with its values in the other order it isn't
abbrev first_hash : List Write → ℕ
first_hash [] = 0
first_hash (w ∷ ws) = of_what w.what where
  of_what : Wrote → ℕ
  of_what (Put hash size) = first_byte hash
  of_what Gone = 0

swapped_values : IsAllowed here lawful_born (OwnPut three ((98 ∷ []) ∷ (97 ∷ []) ∷ [])) → ⊥
unfolding sha256 first_words schedule rounds compress hash_after digest_bytes rest_of numeral bytes_of inner list_of number dep write marked roster_entry added answer_to content_checks due first_failed_check forked growth is_known named_opponent opponent proof_checks points refused_as_convicted sight statement_checks contradicts is_of_kind kind_of proof_of by_id history_hash history_text leaves_of put_by_id first_values seen_under has_id holds_hash is_convicted is_vouched is_wanted named prev_of past leaf_count next_entries next_own precedes_named birth own_put record_text tagged foreign_leaves full_with is_signed key_of hash_of_roster id_of_statement id_of_update proof roster signed statement update_body update_fields voucher_body voucher_fields
swapped_values a = let met : 202 ≡ 62 = ap (λ u. first_hash u.writes) a.may.next in omega (arith, met)

-- nor with one value too few, or too many
value_missing : IsAllowed here lawful_born (OwnPut three ((97 ∷ []) ∷ [])) → ⊥
value_missing a = let met : 1 ≡ 2 = ap length (own_put_facts three ((97 ∷ []) ∷ []) a.text).long in omega (arith, met)

one_more_value : IsAllowed here lawful_born (OwnPut three ((97 ∷ []) ∷ (98 ∷ []) ∷ [] ∷ [])) → ⊥
one_more_value a = let met : 3 ≡ 2 = ap length (own_put_facts three ((97 ∷ []) ∷ (98 ∷ []) ∷ [] ∷ []) a.text).long in omega (arith, met)

-- nor a key twice
key_twice : IsAllowed here lawful_born (OwnPut (record one { writes = record { key = 107 ∷ []; what = Gone } ∷ record { key = 107 ∷ []; what = Gone } ∷ [] }) []) → ⊥
key_twice a = not_twice (update_facts _ (own_put_facts _ [] a.text).update).writes.rise.0 where
  not_twice : false ≡ true → ⊥
  not_twice met = absurd cc

-- ---- what a read shows

abbrev journal : List Record
journal = lawful_born ++ put_three ∷ []

record WhatIsShown : Type 0 where
  pub first_key : seen_under journal (107 ∷ []) three ≡ held_value (97 ∷ [])
  pub last_key : seen_under journal (109 ∷ []) three ≡ held_value (98 ∷ [])
  pub deleted_key : seen_under journal (108 ∷ []) three ≡ gone
  -- the same write where the value isn't held; a deletion is shown all the same
  pub without : seen_under lawful_born (107 ∷ []) three ≡ not_held
  pub deleted : seen_under lawful_born (108 ∷ []) three ≡ gone
  -- nothing is wanted then, and both values where none is held
  pub wants_none : lacking journal ≡ []
  pub wants_both : lacking (lawful_born ++ took (record two { writes = writes_three }) ∷ []) ≡ sha256 (98 ∷ []) ∷ sha256 (97 ∷ []) ∷ []

what_is_shown : WhatIsShown
unfolding sha256 first_words schedule rounds compress hash_after digest_bytes rest_of numeral bytes_of inner list_of number dep write marked roster_entry added answer_to content_checks due first_failed_check forked growth is_known named_opponent opponent proof_checks points refused_as_convicted sight statement_checks contradicts is_of_kind kind_of proof_of by_id history_hash history_text leaves_of put_by_id first_values seen_under has_id holds_hash is_convicted is_vouched is_wanted named prev_of past leaf_count next_entries next_own precedes_named birth own_put record_text tagged foreign_leaves full_with is_signed key_of hash_of_roster id_of_statement id_of_update proof roster signed statement update_body update_fields voucher_body voucher_fields lacking put_rising rising holds
what_is_shown = record { first_key = refl; last_key = refl; deleted_key = refl; without = refl; deleted = refl; wants_none = refl; wants_both = refl }
