-- Worked examples of room: each limit just met and just passed, their order, and what counts.
--
-- Journals at a limit are too long to write out, so these are any journals of which the counts are reported.
use Rattle.std.proofs.Common.{◌≡◌, ℕ, List, [], ◌∷◌, ◌++◌, length, Some, None, refl}
use Rattle.sha2.specs.Sha256.{sha256, first_words, schedule, rounds, compress, hash_after, digest_bytes}
use Rattle.depot_base.specs.Closed.{rest_of}
use Rattle.depot_base.specs.Cursor.{numeral}
use Rattle.depot_base.specs.Format.{number, bytes_of, inner, list_of}
use Rattle.depot_base.specs.Parts.{dep, roster_entry}
use Rattle.depot_base.specs.Zeros.{zeros}
use Rattle.depot_base.specs.declared.check.Full.{Full}
use Rattle.depot_base.specs.declared.check.FullOf.TheVariants as full_of
use Rattle.depot_base.specs.declared.record.Record.TheVariants.{OwnPut, Conviction, Held}
use Rattle.depot_base.specs.declared.record.Record.{Record}
use Rattle.depot_base.specs.declared.update.Update.{Update}
use Rattle.depot_model.specs.checks.Limits.{spent_by, tips_of, collides_by, limit_of_own, spent, tips, collides, full}
use Rattle.depot_model.specs.texts.Records.{birth, own_put, tagged, record_text, journal_bytes}
use Rattle.depot_model.specs.checks.Room.{foreign_leaves, full_with, full_by}
use Rattle.depot_model.specs.texts.Texts.{update_fields, voucher_fields, update_body, voucher_body, statement, signed, proof, roster, id_of_update}
use Rattle.depot_model.proofs.examples.Cast.{here, one, two, nine_other, vouch, against_nine, born, took, took_voucher}

-- with these records after it a journal has this many records, bytes, and leaves of other writers than node 1
record Comes (J new : List Record) (n size wide : ℕ) : Type 0 where
  pub records : length (J ++ new) ≡ n
  pub bytes : journal_bytes (J ++ new) ≡ size
  pub leaves : length (foreign_leaves 1 (J ++ new)) ≡ wide

abbrev an_update : List Record
an_update = took two ∷ []

abbrev a_value : List Record
a_value = Held [] ∷ []

abbrev a_voucher : List Record
a_voucher = took_voucher (vouch 2 0 (zeros ∷ [])) ∷ []

-- a contrary update that is vouched for comes with its conviction
abbrev an_update_and_a_conviction : List Record
an_update_and_a_conviction = Conviction against_nine ∷ took nine_other ∷ []

-- ---- the limits, and the order in which they are reported

at_each_limit : (J : List Record) → Comes J an_update 131072 1073741824 4096 → full_with 1 J an_update ≡ None
unfolding full_with
at_each_limit J c = rw (c.records, c.bytes, c.leaves) refl

-- where all three are passed the records are reported, with their number now
one_record_more : (J : List Record) → Comes J an_update 131073 1073741825 4097 → full_with 1 J an_update ≡ Some (record { what = full_of.Records; number = length J })
unfolding full_with
one_record_more J c = rw c.records refl

-- then the bytes
one_byte_more : (J : List Record) → Comes J an_update 131072 1073741825 4097 → full_with 1 J an_update ≡ Some (record { what = full_of.Bytes; number = journal_bytes J })
unfolding full_with
one_byte_more J c = rw (c.records, c.bytes) refl

-- then the leaves of other writers
one_leaf_more : (J : List Record) → Comes J an_update 131072 1073741824 4097 → full_with 1 J an_update ≡ Some (record { what = full_of.Writers; number = length (foreign_leaves 1 J) })
unfolding full_with
one_leaf_more J c = rw (c.records, c.bytes, c.leaves) refl

-- ---- what takes a leaf

-- neither a value nor a voucher does, however many leaves there are
value_takes_none : (J : List Record) → Comes J a_value 131072 1073741824 4097 → full_with 1 J a_value ≡ None
unfolding full_with
value_takes_none J c = rw (c.records, c.bytes) refl

voucher_takes_none : (J : List Record) → Comes J a_voucher 131072 1073741824 4097 → full_with 1 J a_voucher ≡ None
unfolding full_with
voucher_takes_none J c = rw (c.records, c.bytes) refl

-- an update after its conviction does, and both records count
both_count : (J : List Record) → Comes J an_update_and_a_conviction 131072 1073741824 4097 → full_with 1 J an_update_and_a_conviction ≡ Some (record { what = full_of.Writers; number = length (foreign_leaves 1 J) })
unfolding full_with
both_count J c = rw (c.records, c.bytes, c.leaves) refl

both_are_records : (J : List Record) → Comes J an_update_and_a_conviction 131073 1073741824 4096 → full_with 1 J an_update_and_a_conviction ≡ Some (record { what = full_of.Records; number = length J })
unfolding full_with
both_are_records J c = rw c.records refl

-- where nothing is appended nothing is full, however much there is
nothing_is_never_full : (J : List Record) → full_by 1 J [] ≡ None
nothing_is_never_full J = refl

something_may_be : (J : List Record) → Comes J a_value 131073 0 0 → full_by 1 J a_value ≡ Some (record { what = full_of.Records; number = length J })
unfolding full_with
something_may_be J c = rw c.records refl

-- ---- the order of the limits of an own update

-- too few leaves before too many entries
leaves_before_entries : (J : List Record) (u : Update) → spent_by here J 1 ≡ Some (spent 4) → tips_of u ≡ Some (tips 1025) → limit_of_own here J u an_update ≡ Some (spent 4)
unfolding limit_of_own
leaves_before_entries J u no_leaf wide = rw no_leaf refl

-- these before an id that is taken
entries_before_id : (J : List Record) (u : Update) → spent_by here J 1 ≡ None → tips_of u ≡ Some (tips 1025) → collides_by J u ≡ Some (collides zeros) → limit_of_own here J u an_update ≡ Some (tips 1025)
unfolding limit_of_own
entries_before_id J u has_leaf wide is_taken = rw (has_leaf, wide) refl

-- that before room
id_before_room : (J : List Record) (u : Update) (f : Full) → spent_by here J 1 ≡ None → tips_of u ≡ None → collides_by J u ≡ Some (collides zeros) → full_with 1 J an_update ≡ Some f → limit_of_own here J u an_update ≡ Some (collides zeros)
unfolding limit_of_own
id_before_room J u f has_leaf narrow is_taken is_full = rw (has_leaf, narrow, is_taken) refl

-- and room last
room_is_told : (J : List Record) (u : Update) (f : Full) → spent_by here J 1 ≡ None → tips_of u ≡ None → collides_by J u ≡ None → full_with 1 J an_update ≡ Some f → limit_of_own here J u an_update ≡ Some (full f)
unfolding limit_of_own
room_is_told J u f has_leaf narrow is_new is_full = rw (has_leaf, narrow, is_new, is_full) refl

-- ---- counts

record Bytes : Type 0 where
  -- the first gate; for each record its length in 4 bytes, its text, and a gate
  pub of_none : journal_bytes [] ≡ 1
  pub of_birth : journal_bytes born ≡ 41
  -- tag 1, length 4, body 120, value 1
  pub of_put : journal_bytes (born ++ OwnPut one ((49 ∷ []) ∷ []) ∷ []) ≡ 172
  pub of_value : journal_bytes (born ++ Held (49 ∷ 50 ∷ []) ∷ []) ≡ 49

bytes : Bytes
unfolding sha256 first_words schedule rounds compress hash_after digest_bytes rest_of numeral bytes_of inner list_of number dep roster_entry birth own_put record_text tagged id_of_update proof roster signed statement update_body update_fields voucher_body voucher_fields
bytes = record { of_none = refl; of_birth = refl; of_put = refl; of_value = refl }
