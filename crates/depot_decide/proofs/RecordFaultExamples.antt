-- Worked examples of what is wrong with a record: one of each fault, and one record without any.
use Rattle.std.proofs.Common.{◌≡◌, ℕ, ◌≤◌, List, [], ◌∷◌, ◌++◌, length, refl, ap, subst, arith, rules}
use Rattle.std.proofs.lemmas.List.{length-append}
use Rattle.sha2.specs.Sha256.{sha256, first_words, schedule, rounds, compress, hash_after, digest_bytes}
use Rattle.depot_base.specs.Closed.{rest_of}
use Rattle.depot_base.specs.Cursor.{numeral}
use Rattle.depot_base.specs.Format.{number, bytes_of, inner, list_of}
use Rattle.depot_base.specs.Parts.{dep, marked, roster_entry, write}
use Rattle.depot_base.specs.Writes.{put_one}
use Rattle.depot_base.specs.declared.check.Check.TheVariants as check
use Rattle.depot_base.specs.declared.record.Record.{Record}
use Rattle.depot_base.specs.declared.record.Record.TheVariants.{Birth, OwnPut, OwnVoucher, Held}
use Rattle.depot_base.specs.declared.update.Update.{Update}
use Rattle.depot_base.specs.declared.write.Wrote.{Wrote}
use Rattle.depot_base.specs.declared.write.Wrote.TheVariants.{Put, Gone}
use Rattle.depot_base.specs.declared.write.Write.{Write}
use Rattle.depot_base.proofs.FormatLaws.{cursor}
use Rattle.depot_model.specs.declared.record_fault.RecordFault.{RecordFault}
use Rattle.depot_model.specs.declared.record_fault.RecordFault.TheVariants as fault
use Rattle.depot_model.specs.checks.Checks.{sight, content_checks, opponent, forked, refused_as_convicted, statement_checks, proof_checks, first_failed_check, is_known, answer_to, due, named_opponent, added, growth}
use Rattle.depot_model.specs.updates.Contradictions.{is_of_kind, contradicts, kind_of}
use Rattle.depot_model.specs.updates.Conviction.{proof_of}
use Rattle.depot_model.specs.updates.History.{leaves_of, put_by_id, by_id, history_text, history_hash}
use Rattle.depot_model.specs.journals.Journal.{first_values, has_id, named, prev_of, is_convicted, is_vouched, holds_hash, is_wanted}
use Rattle.depot_model.specs.updates.Judgement.{points}
use Rattle.depot_model.specs.journals.Lawful.{MayFollow, IsAllowed}
use Rattle.depot_model.specs.updates.Order.{past}
use Rattle.depot_model.specs.checks.Own.{precedes_named, next_entries, next_own, leaf_count}
use Rattle.depot_model.specs.checks.RecordFaults.{IsFaultOf, IsFault}
use Rattle.depot_model.specs.texts.Records.{birth, own_put, record_text, tagged, text_of_record}
use Rattle.depot_model.specs.checks.Room.{HasRoom, foreign_leaves, full_with}
use Rattle.depot_model.specs.texts.Roster.{key_of, is_signed}
use Rattle.depot_model.specs.texts.Texts.{update_fields, voucher_fields, update_body, voucher_body, statement, signed, proof, roster, id_of_update, id_of_statement, hash_of_roster}
use Rattle.depot_model.proofs.examples.Cast.{members, here, one, two, two_id, two_more, nine, nine_other, vouch, took, took_voucher}
use Rattle.depot_model.proofs.of_texts.RecordLaws.{record_text_lawful}
use Rattle.depot_laws.proofs.records.JournalLimits.{within_from_room}
use Rattle.depot_model.proofs.examples.LawfulExamples.{birth_is_allowed}
use Rattle.depot_decide.proofs.RecordChecks.{made_of}
use Rattle.depot_laws.proofs.records.FaultLaws.{no_fault}

abbrev begun : List Record
begun = Birth 1 (hash_of_roster members) ∷ []

abbrev first_put : Update
first_put = record one { writes = put_one (107 ∷ []) (sha256 (49 ∷ [])) 1 }

abbrev put_of : Update → Record
put_of u = OwnPut u ((49 ∷ []) ∷ [])

-- two keys with a value, and one that is deleted
abbrev mixed : Update
mixed = record one { writes = record { key = 107 ∷ []; what = Put (sha256 (97 ∷ [])) 1 } ∷ record { key = 108 ∷ []; what = Gone } ∷ record { key = 109 ∷ []; what = Put (sha256 (98 ∷ [])) 1 } ∷ [] }

abbrev with_two : List Record
with_two = begun ++ took two ∷ []

-- ---- none

no_fault_in_birth : (f : RecordFault) → IsFault here [] (text_of_record (Birth 1 (hash_of_roster members))) f → ⊥
no_fault_in_birth f wrong = no_fault here [] (Birth 1 (hash_of_roster members)) f birth_is_allowed wrong

abbrev first_byte : List ℕ → ℕ
first_byte [] = 0
first_byte (b ∷ bytes) = b

mixed_is_allowed : IsAllowed here begun (OwnPut mixed ((97 ∷ []) ∷ (98 ∷ []) ∷ []))
unfolding sha256 first_words schedule rounds compress hash_after digest_bytes rest_of numeral bytes_of inner list_of number dep write marked roster_entry by_id history_hash history_text leaves_of put_by_id has_id named prev_of past leaf_count next_entries next_own precedes_named birth own_put record_text tagged foreign_leaves full_with key_of hash_of_roster id_of_update statement update_body update_fields
mixed_is_allowed = record {
  first = refl;
  text = search rules;
  may = record { next = refl; fresh = record { named = λ same. (let byte : first_byte (id_of_update mixed) ≡ 0 = ap first_byte same in omega (arith, byte)); new = refl }; tips = omega arith; leaf = omega arith };
  room = refl;
}

no_fault_in_mixed : (f : RecordFault) → IsFault here begun (text_of_record (OwnPut mixed ((97 ∷ []) ∷ (98 ∷ []) ∷ []))) f → ⊥
no_fault_in_mixed f wrong = no_fault here begun (OwnPut mixed ((97 ∷ []) ∷ (98 ∷ []) ∷ [])) f mixed_is_allowed wrong

-- ---- one of each

-- a text of no record: no kind has the tag 7
ill : IsFault here begun (7 ∷ []) (fault.Ill 0)
unfolding record_text number
ill =
    let f = record_text_lawful.faults (cursor 0 (7 ∷ [])) 0 (search rules) refl in
    let at : f.after ≡ 0 = omega (arith, f.place) in
    subst (λ (n : ℕ). record_text.fault (7 ∷ []) n) at f.fault

-- a second birth, and another record in the place of the first
second_birth : IsFaultOf here begun (Birth 1 (hash_of_roster members)) fault.Birth
second_birth = λ place may. absurd cc

no_birth : IsFaultOf here [] (Held []) fault.Birth
no_birth = λ place. absurd cc

-- an own update with a seq that was left out
not_next : IsFaultOf here begun (put_of (record first_put { seq = 1 })) fault.NotNext
unfolding sha256 first_words schedule rounds compress hash_after digest_bytes numeral bytes_of list_of number dep by_id history_hash history_text leaves_of put_by_id has_id named prev_of past next_entries next_own precedes_named id_of_update statement update_body update_fields
not_next = (refl, λ may. (let met : 1 ≡ 0 = ap (λ u. u.seq) may.next in omega (arith, met)))

-- one whose values are in the other order
abbrev first_hashed : List Write → ℕ
first_hashed [] = 0
first_hashed (w ∷ ws) = by_what w.what where
  by_what : Wrote → ℕ
  by_what (Put hash size) = first_byte hash
  by_what Gone = 0

values_swapped : IsFaultOf here begun (OwnPut mixed ((98 ∷ []) ∷ (97 ∷ []) ∷ [])) fault.NotNext
unfolding sha256 first_words schedule rounds compress hash_after digest_bytes numeral
values_swapped = (refl, λ may. (let met : 202 ≡ 62 = ap first_hashed (made_of may) in omega (arith, met)))

-- an own voucher with such a seq
wrong_voucher : IsFaultOf here with_two (OwnVoucher (vouch 1 1 (two_id ∷ []))) fault.OwnVoucher
wrong_voucher = (refl, λ may. (let met : 1 ≡ 0 = may.seq in omega (arith, met)))

-- an update without its prev
early : IsFaultOf here begun (took two_more) (fault.Refused (check.Missing two_id))
unfolding sha256 first_words schedule rounds compress hash_after digest_bytes numeral bytes_of list_of number dep answer_to content_checks first_failed_check forked is_known opponent refused_as_convicted sight statement_checks contradicts is_of_kind kind_of by_id history_hash history_text leaves_of put_by_id has_id is_convicted is_vouched named prev_of past is_signed key_of id_of_statement id_of_update statement update_body update_fields voucher_fields
early = (refl, (_, (refl, refl)))

-- node 3 vouched for an update of node 9 that contradicts one that is kept
abbrev contrary : List Record
contrary = begun ++ took nine ∷ took_voucher (vouch 3 0 (id_of_update nine_other ∷ [])) ∷ []

-- and node 9 isn't convicted before it
due_before : IsFaultOf here contrary (took nine_other) fault.ProofDue
unfolding sha256 first_words schedule rounds compress hash_after digest_bytes rest_of numeral bytes_of inner list_of number dep roster_entry added answer_to content_checks due first_failed_check forked growth is_known named_opponent opponent proof_checks points refused_as_convicted sight statement_checks contradicts is_of_kind kind_of proof_of by_id history_hash history_text leaves_of put_by_id first_values has_id holds_hash is_convicted is_vouched is_wanted named prev_of past leaf_count is_signed key_of hash_of_roster id_of_statement id_of_update proof roster signed statement update_body update_fields voucher_body voucher_fields
due_before = (refl, (refl, λ alone. (let met : 2 ≡ 1 = ap (λ rs. length rs) alone in omega (arith, met))))

-- an update that is known
known : IsFaultOf here with_two (took two) fault.Idle
unfolding sha256 first_words schedule rounds compress hash_after digest_bytes numeral bytes_of list_of number dep answer_to content_checks first_failed_check forked is_known opponent refused_as_convicted sight statement_checks contradicts is_of_kind kind_of by_id history_hash history_text leaves_of put_by_id has_id is_convicted is_vouched named prev_of past is_signed key_of id_of_statement id_of_update statement update_body update_fields voucher_fields
known = (refl, (_, (refl, refl)))

-- after 131,072 records one that might follow
no_room : (r : Record) (rs : List Record) → length (r ∷ rs) ≡ 131072 → MayFollow here (r ∷ rs) (Held []) → IsFaultOf here (r ∷ rs) (Held []) fault.NoRoom
no_room r rs many may = (refl, (may, λ room. is_full (is_none room))) where
  is_none : HasRoom 1 (r ∷ rs) (Held [] ∷ []) → length (r ∷ rs ++ Held [] ∷ []) ≤ 131072
  is_none room = (within_from_room 1 (r ∷ rs) (Held [] ∷ []) room).records

  is_full : length (r ∷ rs ++ Held [] ∷ []) ≤ 131072 → ⊥
  is_full few = omega (arith, few, many, length-append (r ∷ rs) (Held [] ∷ []))
