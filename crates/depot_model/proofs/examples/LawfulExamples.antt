-- Worked examples of lawful journals: a record of each kind where it is allowed, and records that aren't, each for one reason.
use Rattle.std.proofs.Common.{◌≡◌, ℕ, ◌<◌, List, [], ◌∷◌, ◌++◌, length, Bool, true, false, ◌&&◌, ◌||◌, subst, Some, None, Result, Ok, Err, refl, ap, sym, arith, inl, inr, rules, ◌∙◌}
use Rattle.std.proofs.lemmas.Bool.{or_left}
use Rattle.std.proofs.lemmas.List.{length-append}
use Rattle.std.proofs.lemmas.Slice.Eq.{bytes_eq-Decides}
use Rattle.std.specs.Str.{bytes_eq}
use Rattle.sha2.specs.Sha256.{sha256, first_words, schedule, rounds, compress, hash_after, digest_bytes}
use Rattle.depot_base.specs.Writes.{put_one}
use Rattle.depot_base.specs.Closed.{rest_of}
use Rattle.depot_base.specs.Cursor.{numeral}
use Rattle.depot_base.specs.Format.{number, bytes_of, inner, list_of}
use Rattle.depot_base.specs.Parts.{dep, roster_entry}
use Rattle.depot_base.specs.Zeros.{zeros}
use Rattle.depot_base.specs.declared.check.Check.TheVariants as check
use Rattle.depot_base.specs.declared.check.Check.{Check}
use Rattle.depot_base.specs.declared.check.Full.{Full}
use Rattle.depot_base.specs.declared.check.FullOf.TheVariants as full_of
use Rattle.depot_base.specs.declared.proof.Kind.TheVariants.{SameNumber}
use Rattle.depot_base.specs.declared.record.Record.TheVariants.{Birth, OwnPut, OwnVoucher, Conviction, Held}
use Rattle.depot_base.specs.declared.record.Record.{Record}
use Rattle.depot_base.specs.declared.update.Update.{Update}
use Rattle.depot_base.specs.declared.voucher.Voucher.{Voucher}
use Rattle.depot_model.specs.checks.Checks.{sight, content_checks, opponent, forked, refused_as_convicted, statement_checks, proof_checks, first_failed_check, is_known, answer_to, due, named_opponent, added, growth}
use Rattle.depot_model.specs.updates.Contradictions.{is_of_kind, contradicts, kind_of}
use Rattle.depot_model.specs.updates.Conviction.{proof_of}
use Rattle.depot_model.specs.updates.History.{leaves_of, put_by_id, by_id, history_text, history_hash}
use Rattle.depot_model.specs.updates.Judgement.{points}
use Rattle.depot_model.specs.journals.Journal.{first_values, has_id, named, prev_of, is_convicted, is_vouched, holds_hash, is_wanted, accepted, is_foreign}
use Rattle.depot_model.specs.journals.Lawful.{IsAllowed}
use Rattle.depot_model.specs.updates.Order.{past}
use Rattle.depot_model.specs.checks.Own.{precedes_named, next_entries, next_own, leaf_count}
use Rattle.depot_model.specs.texts.Records.{birth, own_put, tagged, record_text}
use Rattle.depot_model.specs.checks.Room.{foreign_leaves, full_with}
use Rattle.depot_model.specs.texts.Roster.{key_of, is_signed}
use Rattle.depot_model.specs.texts.Texts.{update_fields, voucher_fields, update_body, voucher_body, statement, signed, proof, roster, id_of_update, id_of_statement, hash_of_roster}
use Rattle.depot_model.specs.declared.taken.Taken.TheVariants.{New, Known}
use Rattle.depot_model.specs.declared.taken.Taken.{Taken}
use Rattle.depot_model.proofs.examples.Cast.{members, here, signed_update, first_of, one, two, two_id, two_seen, two_more, nine, nine_other, vouch, pair, against_nine, took, took_voucher}

abbrev lawful_born : List Record
lawful_born = Birth 1 (hash_of_roster members) ∷ []

abbrev first_put : Update
first_put = record one { writes = put_one (107 ∷ []) (sha256 (49 ∷ [])) 1 }

-- an update of node 2 that names the value of the byte 50
abbrev two_valued : Update
two_valued = record two { writes = put_one (107 ∷ []) (sha256 (50 ∷ [])) 1 }

abbrev put_once : List Record
put_once = lawful_born ++ OwnPut first_put ((49 ∷ []) ∷ []) ∷ []

abbrev and_two : List Record
and_two = put_once ++ took two_valued ∷ []

abbrev and_its_value : List Record
and_its_value = and_two ++ Held (50 ∷ []) ∷ []

abbrev for_two : Voucher
for_two = vouch 1 1 (id_of_update two_valued ∷ [])

-- ---- one of each kind, each after those before it

abbrev first_byte : List ℕ → ℕ
first_byte [] = 0
first_byte (b ∷ bytes) = b

pub birth_is_allowed : IsAllowed here [] (Birth 1 (hash_of_roster members))
unfolding sha256 first_words schedule rounds compress hash_after digest_bytes rest_of numeral bytes_of inner list_of number dep roster_entry added answer_to content_checks due first_failed_check forked growth is_known named_opponent opponent proof_checks points refused_as_convicted sight statement_checks contradicts is_of_kind kind_of proof_of by_id history_hash history_text leaves_of put_by_id first_values has_id holds_hash is_convicted is_vouched is_wanted named prev_of past leaf_count next_entries next_own precedes_named birth own_put record_text tagged foreign_leaves full_with is_signed key_of hash_of_roster id_of_statement id_of_update proof roster signed statement update_body update_fields voucher_body voucher_fields
birth_is_allowed = record { first = refl; text = search rules; may = (refl, refl); room = refl }

put_is_allowed : IsAllowed here lawful_born (OwnPut first_put ((49 ∷ []) ∷ []))
unfolding sha256 first_words schedule rounds compress hash_after digest_bytes rest_of numeral bytes_of inner list_of number dep roster_entry added answer_to content_checks due first_failed_check forked growth is_known named_opponent opponent proof_checks points refused_as_convicted sight statement_checks contradicts is_of_kind kind_of proof_of by_id history_hash history_text leaves_of put_by_id first_values has_id holds_hash is_convicted is_vouched is_wanted named prev_of past leaf_count next_entries next_own precedes_named birth own_put record_text tagged foreign_leaves full_with is_signed key_of hash_of_roster id_of_statement id_of_update proof roster signed statement update_body update_fields voucher_body voucher_fields
put_is_allowed = record {
  first = refl;
  text = search rules;
  may = record { next = refl; fresh = record { named = λ same. (let byte : first_byte (id_of_update first_put) ≡ 0 = ap first_byte same in omega (arith, byte)); new = refl }; tips = omega arith; leaf = omega arith };
  room = refl;
}

update_is_allowed : IsAllowed here put_once (took two_valued)
unfolding sha256 first_words schedule rounds compress hash_after digest_bytes rest_of numeral bytes_of inner list_of number dep roster_entry added answer_to content_checks due first_failed_check forked growth is_known named_opponent opponent proof_checks points refused_as_convicted sight statement_checks contradicts is_of_kind kind_of proof_of by_id history_hash history_text leaves_of put_by_id first_values has_id holds_hash is_convicted is_vouched is_wanted named prev_of past leaf_count next_entries next_own precedes_named birth own_put record_text tagged foreign_leaves full_with is_signed key_of hash_of_roster id_of_statement id_of_update proof roster signed statement update_body update_fields voucher_body voucher_fields
update_is_allowed = record { first = refl; text = search rules; may = (refl, refl); room = refl }

value_is_allowed : IsAllowed here and_two (Held (50 ∷ []))
unfolding sha256 first_words schedule rounds compress hash_after digest_bytes rest_of numeral bytes_of inner list_of number dep roster_entry added answer_to content_checks due first_failed_check forked growth is_known named_opponent opponent proof_checks points refused_as_convicted sight statement_checks contradicts is_of_kind kind_of proof_of by_id history_hash history_text leaves_of put_by_id first_values has_id holds_hash is_convicted is_vouched is_wanted named prev_of past leaf_count next_entries next_own precedes_named birth own_put record_text tagged foreign_leaves full_with is_signed key_of hash_of_roster id_of_statement id_of_update proof roster signed statement update_body update_fields voucher_body voucher_fields
value_is_allowed = record { first = refl; text = search rules; may = refl; room = refl }

voucher_is_allowed : IsAllowed here and_its_value (OwnVoucher for_two)
unfolding sha256 first_words schedule rounds compress hash_after digest_bytes rest_of numeral bytes_of inner list_of number dep roster_entry added answer_to content_checks due first_failed_check forked growth is_known named_opponent opponent proof_checks points refused_as_convicted sight statement_checks contradicts is_of_kind kind_of proof_of by_id history_hash history_text leaves_of put_by_id first_values has_id holds_hash is_convicted is_vouched is_wanted named prev_of past leaf_count next_entries next_own precedes_named birth own_put record_text tagged foreign_leaves full_with is_signed key_of hash_of_roster id_of_statement id_of_update proof roster signed statement update_body update_fields voucher_body voucher_fields
voucher_is_allowed = record {
  first = refl;
  text = search rules;
  may = record {
    node = refl;
    seq = refl;
    leaf = omega arith;
    ids = λ h on. elim on [
      | inl same ↦ subst (λ (h : List ℕ). is_foreign 1 (accepted and_its_value) h ≡ true) same refl
      | inr never ↦ absurd never
    ];
  };
  room = refl;
}

proof_is_allowed : IsAllowed here and_its_value (Conviction against_nine)
unfolding sha256 first_words schedule rounds compress hash_after digest_bytes rest_of numeral bytes_of inner list_of number dep roster_entry added answer_to content_checks due first_failed_check forked growth is_known named_opponent opponent proof_checks points refused_as_convicted sight statement_checks contradicts is_of_kind kind_of proof_of by_id history_hash history_text leaves_of put_by_id first_values has_id holds_hash is_convicted is_vouched is_wanted named prev_of past leaf_count next_entries next_own precedes_named birth own_put record_text tagged foreign_leaves full_with is_signed key_of hash_of_roster id_of_statement id_of_update proof roster signed statement update_body update_fields voucher_body voucher_fields
proof_is_allowed = record { first = refl; text = search rules; may = refl; room = refl }

-- ---- what can't be

yes_is_not_no : true ≡ false → ⊥
yes_is_not_no met = absurd cc

abbrev known_already : Result Taken Check
known_already = Ok Known

abbrev taken_as_new : Result Taken Check
taken_as_new = Ok New

known_is_not_new : known_already ≡ taken_as_new → ⊥
known_is_not_new met = absurd cc

refusal_is_not_new : (c : Check) → Err c ≡ taken_as_new → ⊥
refusal_is_not_new c met = absurd cc

full_is_not_none : (full : Full) → Some full ≡ None → ⊥
full_is_not_none full met = absurd cc

-- ---- births

-- a second one
second_birth : IsAllowed here lawful_born (Birth 1 (hash_of_roster members)) → ⊥
second_birth a = yes_is_not_no a.first

-- another record in its place
no_birth : IsAllowed here [] (Held []) → ⊥
no_birth a = yes_is_not_no (sym a.first)

-- that of another node
birth_of_another : IsAllowed here [] (Birth 2 (hash_of_roster members)) → ⊥
birth_of_another a = let met : 2 ≡ 1 = a.may.0 in omega (arith, met)

-- that of another roster
birth_under_another_roster : IsAllowed here [] (Birth 1 zeros) → ⊥
unfolding sha256 first_words schedule rounds compress hash_after digest_bytes rest_of numeral bytes_of inner list_of number dep roster_entry added answer_to content_checks due first_failed_check forked growth is_known named_opponent opponent proof_checks points refused_as_convicted sight statement_checks contradicts is_of_kind kind_of proof_of by_id history_hash history_text leaves_of put_by_id first_values has_id holds_hash is_convicted is_vouched is_wanted named prev_of past leaf_count next_entries next_own precedes_named birth own_put record_text tagged foreign_leaves full_with is_signed key_of hash_of_roster id_of_statement id_of_update proof roster signed statement update_body update_fields voucher_body voucher_fields
birth_under_another_roster a = let met : 0 ≡ first_byte (hash_of_roster members) = ap first_byte a.may.1 in omega (arith, met)

-- ---- own puts

abbrev put_of : Update → Record
put_of u = OwnPut u ((49 ∷ []) ∷ [])

-- a seq that was left out
wrong_seq : IsAllowed here lawful_born (put_of (record first_put { seq = 1 })) → ⊥
unfolding sha256 first_words schedule rounds compress hash_after digest_bytes rest_of numeral bytes_of inner list_of number dep roster_entry added answer_to content_checks due first_failed_check forked growth is_known named_opponent opponent proof_checks points refused_as_convicted sight statement_checks contradicts is_of_kind kind_of proof_of by_id history_hash history_text leaves_of put_by_id first_values has_id holds_hash is_convicted is_vouched is_wanted named prev_of past leaf_count next_entries next_own precedes_named birth own_put record_text tagged foreign_leaves full_with is_signed key_of hash_of_roster id_of_statement id_of_update proof roster signed statement update_body update_fields voucher_body voucher_fields
wrong_seq a = let met : 1 ≡ 0 = ap (λ u. u.seq) a.may.next in omega (arith, met)

-- a clock that was
wrong_clock : IsAllowed here lawful_born (put_of (record first_put { clock = 2 })) → ⊥
unfolding sha256 first_words schedule rounds compress hash_after digest_bytes rest_of numeral bytes_of inner list_of number dep roster_entry added answer_to content_checks due first_failed_check forked growth is_known named_opponent opponent proof_checks points refused_as_convicted sight statement_checks contradicts is_of_kind kind_of proof_of by_id history_hash history_text leaves_of put_by_id first_values has_id holds_hash is_convicted is_vouched is_wanted named prev_of past leaf_count next_entries next_own precedes_named birth own_put record_text tagged foreign_leaves full_with is_signed key_of hash_of_roster id_of_statement id_of_update proof roster signed statement update_body update_fields voucher_body voucher_fields
wrong_clock a = let met : 2 ≡ 1 = ap (λ u. u.clock) a.may.next in omega (arith, met)

-- a leaf that isn't named
no_entry : IsAllowed here (lawful_born ++ took two ∷ []) (put_of (record first_put { clock = 2; history = two_seen })) → ⊥
unfolding sha256 first_words schedule rounds compress hash_after digest_bytes rest_of numeral bytes_of inner list_of number dep roster_entry added answer_to content_checks due first_failed_check forked growth is_known named_opponent opponent proof_checks points refused_as_convicted sight statement_checks contradicts is_of_kind kind_of proof_of by_id history_hash history_text leaves_of put_by_id first_values has_id holds_hash is_convicted is_vouched is_wanted named prev_of past leaf_count next_entries next_own precedes_named birth own_put record_text tagged foreign_leaves full_with is_signed key_of hash_of_roster id_of_statement id_of_update proof roster signed statement update_body update_fields voucher_body voucher_fields
no_entry a = let met : 0 ≡ 1 = ap (λ u. length u.deps) a.may.next in omega (arith, met)

-- more statements than leaves
abbrev signed_four : List Record
signed_four = lawful_born ++ OwnVoucher (vouch 1 0 []) ∷ OwnVoucher (vouch 1 1 []) ∷ OwnVoucher (vouch 1 2 []) ∷ OwnVoucher (vouch 1 3 []) ∷ []

no_leaf_left : (u : Update) → IsAllowed here signed_four (put_of u) → ⊥
unfolding leaf_count key_of
no_leaf_left u a = let met : 4 < 4 = a.may.leaf in omega (arith, met)

-- more than 1,024 entries
too_many_entries : (J : List Record) (u : Update) → length u.deps ≡ 1025 → IsAllowed here J (put_of u) → ⊥
too_many_entries J u e a = omega (arith, e, a.may.tips)

-- an id that is taken
taken_id : (u : Update) → IsAllowed here (lawful_born ++ took u ∷ []) (put_of u) → ⊥
unfolding has_id
taken_id u a = yes_is_not_no (sym same_id ∙ a.may.fresh.new) where
  same_id : has_id (u ∷ []) (id_of_update u) ≡ true
  same_id = or_left (bytes_eq (id_of_update u) (id_of_update u)) false ((bytes_eq-Decides (id_of_update u) (id_of_update u)).1 refl)

-- ---- own vouchers

-- for an own update
own_vouched : IsAllowed here put_once (OwnVoucher (vouch 1 1 (id_of_update first_put ∷ []))) → ⊥
own_vouched a = is_own (bytes_eq (id_of_update first_put) (id_of_update first_put)) (a.may.ids (id_of_update first_put) (inl refl)) where
  is_own : (named : Bool) → ((named && false) || false) ≡ true → ⊥
  is_own true met = absurd cc
  is_own false met = absurd cc

-- for nothing that is accepted
nothing_vouched : IsAllowed here lawful_born (OwnVoucher (vouch 1 0 (zeros ∷ []))) → ⊥
nothing_vouched a = no_is_not_yes (a.may.ids zeros (inl refl)) where
  no_is_not_yes : false ≡ true → ⊥
  no_is_not_yes met = absurd cc

-- with a seq that is used, and in another node's name
voucher_with_a_used_seq : IsAllowed here and_two (OwnVoucher (vouch 1 0 (id_of_update two_valued ∷ []))) → ⊥
voucher_with_a_used_seq a = let met : 0 ≡ 1 = a.may.seq in omega (arith, met)

voucher_of_another : IsAllowed here and_two (OwnVoucher (vouch 2 1 (id_of_update two_valued ∷ []))) → ⊥
voucher_of_another a = let met : 2 ≡ 1 = a.may.node in omega (arith, met)

-- ---- statements of others

-- once more
known_update : IsAllowed here and_two (took two_valued) → ⊥
unfolding sha256 first_words schedule rounds compress hash_after digest_bytes rest_of numeral bytes_of inner list_of number dep roster_entry added answer_to content_checks due first_failed_check forked growth is_known named_opponent opponent proof_checks points refused_as_convicted sight statement_checks contradicts is_of_kind kind_of proof_of by_id history_hash history_text leaves_of put_by_id first_values has_id holds_hash is_convicted is_vouched is_wanted named prev_of past leaf_count next_entries next_own precedes_named birth own_put record_text tagged foreign_leaves full_with is_signed key_of hash_of_roster id_of_statement id_of_update proof roster signed statement update_body update_fields voucher_body voucher_fields
known_update a = known_is_not_new a.may.0

-- without its prev
early_update : IsAllowed here lawful_born (took two_more) → ⊥
unfolding sha256 first_words schedule rounds compress hash_after digest_bytes rest_of numeral bytes_of inner list_of number dep roster_entry added answer_to content_checks due first_failed_check forked growth is_known named_opponent opponent proof_checks points refused_as_convicted sight statement_checks contradicts is_of_kind kind_of proof_of by_id history_hash history_text leaves_of put_by_id first_values has_id holds_hash is_convicted is_vouched is_wanted named prev_of past leaf_count next_entries next_own precedes_named birth own_put record_text tagged foreign_leaves full_with is_signed key_of hash_of_roster id_of_statement id_of_update proof roster signed statement update_body update_fields voucher_body voucher_fields
early_update a = refusal_is_not_new (check.Missing two_id) a.may.0

-- node 3 vouched for an update of node 9 that contradicts one that is kept
abbrev contrary : List Record
contrary = lawful_born ++ took nine ∷ took_voucher (vouch 3 0 (id_of_update nine_other ∷ [])) ∷ []

-- without the conviction
not_convicted_before : IsAllowed here contrary (took nine_other) → ⊥
unfolding sha256 first_words schedule rounds compress hash_after digest_bytes rest_of numeral bytes_of inner list_of number dep roster_entry added answer_to content_checks due first_failed_check forked growth is_known named_opponent opponent proof_checks points refused_as_convicted sight statement_checks contradicts is_of_kind kind_of proof_of by_id history_hash history_text leaves_of put_by_id first_values has_id holds_hash is_convicted is_vouched is_wanted named prev_of past leaf_count next_entries next_own precedes_named birth own_put record_text tagged foreign_leaves full_with is_signed key_of hash_of_roster id_of_statement id_of_update proof roster signed statement update_body update_fields voucher_body voucher_fields
not_convicted_before a = let met : 2 ≡ 1 = ap (λ rs. length rs) a.may.1 in omega (arith, met)

-- and after it
convicted_before : IsAllowed here (contrary ++ Conviction against_nine ∷ []) (took nine_other)
unfolding sha256 first_words schedule rounds compress hash_after digest_bytes rest_of numeral bytes_of inner list_of number dep roster_entry added answer_to content_checks due first_failed_check forked growth is_known named_opponent opponent proof_checks points refused_as_convicted sight statement_checks contradicts is_of_kind kind_of proof_of by_id history_hash history_text leaves_of put_by_id first_values has_id holds_hash is_convicted is_vouched is_wanted named prev_of past leaf_count next_entries next_own precedes_named birth own_put record_text tagged foreign_leaves full_with is_signed key_of hash_of_roster id_of_statement id_of_update proof roster signed statement update_body update_fields voucher_body voucher_fields
convicted_before = record { first = refl; text = search rules; may = (refl, refl); room = refl }

-- ---- proofs and values

-- against this node
against_me : IsAllowed here lawful_born (Conviction (pair SameNumber (signed_update one) (signed_update (first_of 1 50)))) → ⊥
unfolding sha256 first_words schedule rounds compress hash_after digest_bytes rest_of numeral bytes_of inner list_of number dep roster_entry added answer_to content_checks due first_failed_check forked growth is_known named_opponent opponent proof_checks points refused_as_convicted sight statement_checks contradicts is_of_kind kind_of proof_of by_id history_hash history_text leaves_of put_by_id first_values has_id holds_hash is_convicted is_vouched is_wanted named prev_of past leaf_count next_entries next_own precedes_named birth own_put record_text tagged foreign_leaves full_with is_signed key_of hash_of_roster id_of_statement id_of_update proof roster signed statement update_body update_fields voucher_body voucher_fields
against_me a = refusal_is_not_new check.AgainstMe a.may

-- against one that is convicted
convicted_twice : IsAllowed here (lawful_born ++ Conviction against_nine ∷ []) (Conviction against_nine) → ⊥
unfolding sha256 first_words schedule rounds compress hash_after digest_bytes rest_of numeral bytes_of inner list_of number dep roster_entry added answer_to content_checks due first_failed_check forked growth is_known named_opponent opponent proof_checks points refused_as_convicted sight statement_checks contradicts is_of_kind kind_of proof_of by_id history_hash history_text leaves_of put_by_id first_values has_id holds_hash is_convicted is_vouched is_wanted named prev_of past leaf_count next_entries next_own precedes_named birth own_put record_text tagged foreign_leaves full_with is_signed key_of hash_of_roster id_of_statement id_of_update proof roster signed statement update_body update_fields voucher_body voucher_fields
convicted_twice a = known_is_not_new a.may

-- a value twice, and one that nothing names
held_twice : IsAllowed here and_its_value (Held (50 ∷ [])) → ⊥
unfolding sha256 first_words schedule rounds compress hash_after digest_bytes rest_of numeral bytes_of inner list_of number dep roster_entry added answer_to content_checks due first_failed_check forked growth is_known named_opponent opponent proof_checks points refused_as_convicted sight statement_checks contradicts is_of_kind kind_of proof_of by_id history_hash history_text leaves_of put_by_id first_values has_id holds_hash is_convicted is_vouched is_wanted named prev_of past leaf_count next_entries next_own precedes_named birth own_put record_text tagged foreign_leaves full_with is_signed key_of hash_of_roster id_of_statement id_of_update proof roster signed statement update_body update_fields voucher_body voucher_fields
held_twice a = known_is_not_new a.may

unwanted : IsAllowed here put_once (Held (50 ∷ [])) → ⊥
unfolding sha256 first_words schedule rounds compress hash_after digest_bytes rest_of numeral bytes_of inner list_of number dep roster_entry added answer_to content_checks due first_failed_check forked growth is_known named_opponent opponent proof_checks points refused_as_convicted sight statement_checks contradicts is_of_kind kind_of proof_of by_id history_hash history_text leaves_of put_by_id first_values has_id holds_hash is_convicted is_vouched is_wanted named prev_of past leaf_count next_entries next_own precedes_named birth own_put record_text tagged foreign_leaves full_with is_signed key_of hash_of_roster id_of_statement id_of_update proof roster signed statement update_body update_fields voucher_body voucher_fields
unwanted a = refusal_is_not_new (check.Unwanted (sha256 (50 ∷ []))) a.may

-- ---- room

-- after 131,072 records nothing is allowed
no_room : (J : List Record) (r : Record) → length J ≡ 131072 → IsAllowed here J r → ⊥
unfolding full_with
no_room J r e a = full_is_not_none (record { what = full_of.Records; number = 131072 }) (sym is_full ∙ a.room) where
  is_full : full_with 1 J (r ∷ []) ≡ Some (record { what = full_of.Records; number = 131072 })
  is_full = rw (length-append J (r ∷ []), e) refl
