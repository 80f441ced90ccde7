-- Worked examples of what a node writes next.
use Rattle.std.proofs.Common.{◌≡◌, ℕ, List, [], ◌∷◌, ◌++◌, length, true, false, refl, ap, arith}
use Rattle.sha2.specs.Sha256.{sha256, first_words, schedule, rounds, compress, hash_after, digest_bytes}
use Rattle.depot_base.specs.Writes.{put_one, one_change}
use Rattle.depot_base.specs.Cursor.{numeral}
use Rattle.depot_base.specs.Format.{number, bytes_of, list_of}
use Rattle.depot_base.specs.Parts.{dep}
use Rattle.depot_base.specs.Zeros.{zeros}
use Rattle.depot_base.specs.declared.record.Record.TheVariants.{OwnPut, OwnVoucher}
use Rattle.depot_base.specs.declared.record.Record.{Record}
use Rattle.depot_base.specs.declared.update.Update.{Update}
use Rattle.depot_model.specs.updates.History.{leaves_of, put_by_id, by_id, history_text, history_hash}
use Rattle.depot_model.specs.journals.Journal.{has_id, named, prev_of}
use Rattle.depot_model.specs.updates.Order.{past}
use Rattle.depot_model.specs.checks.Own.{entry_of, precedes_named, next_entries, next_own, IsFresh, leaf_count}
use Rattle.depot_model.specs.texts.Roster.{key_of}
use Rattle.depot_model.specs.texts.Texts.{update_fields, voucher_fields, update_body, statement, id_of_update}
use Rattle.depot_model.proofs.examples.Cast.{members, empty_history, next_of, one, two, two_id, two_entry, two_more, three, nine, nine_entry, nine_more, nine_other, vouch, born, took, from_two, from_nine}

-- this node puts the byte 97 under the key "k"
abbrev next : List Record → Update
next J = next_own 1 J (one_change (107 ∷ []) (97 ∷ []))

-- ---- the first own update

abbrev value_hash_97 : List ℕ
value_hash_97 = sha256 (97 ∷ [])

-- what node 1 writes after the first updates of 2 and 3
abbrev joined : Update
joined = record one { clock = 3; writes = put_one (107 ∷ []) value_hash_97 1; deps = record { writer = 2; clock = 1; id = two_id } ∷ record { writer = 3; clock = 2; id = id_of_update three } ∷ []; history = history_hash (two ∷ three ∷ []) }

abbrev from_both : List Record
from_both = from_two ++ took three ∷ []

record TheFirst : Type 0 where
  -- nothing is accepted
  pub alone : next born ≡ record { writer = 1; seq = 0; clock = 1; prev = zeros; writes = put_one (107 ∷ []) value_hash_97 1; deps = []; history = empty_history }
  -- every leaf of another is named, with its writer, clock and id, also one that another of them names; the clock is above all
  pub behind_others : next from_both ≡ joined
  -- of a writer's chain the last; the history is that of all
  pub last_of_chain : next (from_two ++ took two_more ∷ []) ≡ record one { clock = 3; writes = put_one (107 ∷ []) value_hash_97 1; deps = record { writer = 2; clock = 2; id = id_of_update two_more } ∷ []; history = history_hash (two ∷ two_more ∷ []) }

the_first : TheFirst
unfolding sha256 first_words schedule rounds compress hash_after digest_bytes numeral bytes_of list_of number dep by_id history_hash history_text leaves_of put_by_id has_id named prev_of past next_entries next_own precedes_named id_of_update statement update_body update_fields voucher_fields
the_first = record { alone = refl; behind_others = refl; last_of_chain = refl }

record EntriesAreSorted : Type 0 where
  -- by writer, in whatever order they were accepted
  pub by_writer : (next (from_nine ++ took two ∷ [])).deps ≡ two_entry ∷ nine_entry ∷ []
  -- two leaves of one writer by id
  pub one_writer : (next (from_nine ++ took nine_other ∷ [])).deps ≡ (next (born ++ took nine_other ∷ took nine ∷ [])).deps
  pub both_of_one : length (next (from_nine ++ took nine_other ∷ [])).deps ≡ 2

entries_are_sorted : EntriesAreSorted
unfolding sha256 first_words schedule rounds compress hash_after digest_bytes numeral bytes_of list_of number dep by_id history_hash history_text leaves_of put_by_id has_id named prev_of past next_entries next_own precedes_named id_of_update statement update_body update_fields voucher_fields
entries_are_sorted = record { by_writer = refl; one_writer = refl; both_of_one = refl }

-- ---- after an own update

abbrev put : List Record
put = from_both ++ OwnPut joined ((97 ∷ []) ∷ []) ∷ []

record TheNext : Type 0 where
  -- what precedes the last own update isn't named again
  pub nothing_new : next put ≡ record joined { seq = 1; clock = 4; prev = id_of_update joined; deps = []; history = history_hash (two ∷ three ∷ joined ∷ []) }
  -- what was accepted since is
  pub one_new : (next (put ++ took two_more ∷ [])).deps ≡ entry_of two_more ∷ []
  -- the prev is the last own update, and seq counts those before
  pub behind_two : (next (born ++ OwnPut one ([] ∷ []) ∷ OwnPut (next_of one) ([] ∷ []) ∷ [])).prev ≡ id_of_update (next_of one)
  pub third : (next (born ++ OwnPut one ([] ∷ []) ∷ OwnPut (next_of one) ([] ∷ []) ∷ [])).seq ≡ 2
  -- a voucher takes a seq, and is no prev
  pub behind_voucher : (next (born ++ OwnVoucher (vouch 1 0 (zeros ∷ [])) ∷ [])).seq ≡ 1
  pub no_prev : (next (born ++ OwnVoucher (vouch 1 0 (zeros ∷ [])) ∷ [])).prev ≡ zeros
  -- the clock is one above the greatest, whoever has it, and not the last
  pub clock : (next (from_nine ++ took nine_more ∷ took two ∷ [])).clock ≡ 3

the_next : TheNext
unfolding sha256 first_words schedule rounds compress hash_after digest_bytes numeral bytes_of list_of number dep by_id history_hash history_text leaves_of put_by_id has_id named prev_of past next_entries next_own precedes_named id_of_update statement update_body update_fields voucher_fields
the_next = record { nothing_new = refl; one_new = refl; behind_two = refl; third = refl; behind_voucher = refl; no_prev = refl; clock = refl }

-- ---- what precedes the prev

record PrecedesThePrev : Type 0 where
  pub is_named_by_it : precedes_named (two ∷ three ∷ []) (id_of_update three) two ≡ true
  pub itself : precedes_named (two ∷ three ∷ []) (id_of_update three) three ≡ false
  pub other : precedes_named (two ∷ nine ∷ three ∷ []) (id_of_update three) nine ≡ false
  pub no_prev : precedes_named (two ∷ three ∷ []) zeros two ≡ false

precedes_the_prev : PrecedesThePrev
unfolding sha256 first_words schedule rounds compress hash_after digest_bytes numeral bytes_of list_of number dep has_id named prev_of past precedes_named id_of_update statement update_body update_fields voucher_fields
precedes_the_prev = record { is_named_by_it = refl; itself = refl; other = refl; no_prev = refl }

-- ---- ids that are fresh

abbrev first_byte : List ℕ → ℕ
first_byte [] = 0
first_byte (b ∷ bytes) = b

fresh : IsFresh born two_id
unfolding sha256 first_words schedule rounds compress hash_after digest_bytes numeral bytes_of list_of number dep has_id named id_of_update statement update_body update_fields voucher_fields
fresh = record { named = λ same. (let byte : first_byte two_id ≡ 0 = ap first_byte same in omega (arith, byte)); new = refl }

-- 32 zero bytes are nobody's id, and not fresh
zeros_are_not : (J : List Record) → IsFresh J zeros → ⊥
zeros_are_not J f = f.named refl

-- the id of an accepted update isn't
taken_is_not : IsFresh from_two two_id → ⊥
unfolding sha256 first_words schedule rounds compress hash_after digest_bytes numeral bytes_of list_of number dep has_id named id_of_update statement update_body update_fields voucher_fields
taken_is_not f = absurd cc where
  met : true ≡ false
  met = f.new

-- ---- leaves

record Leaves : Type 0 where
  -- 2 to the height, of this node
  pub four : leaf_count members 1 ≡ 4
  pub eight : leaf_count (record { node = 1; key = record { root = zeros; height = 2 } } ∷ record { node = 2; key = record { root = zeros; height = 3 } } ∷ []) 2 ≡ 8
  -- none where the roster has no such node
  pub none : leaf_count members 7 ≡ 0

leaves : Leaves
unfolding sha256 first_words schedule rounds compress hash_after digest_bytes numeral bytes_of list_of number dep leaf_count key_of id_of_update statement update_body update_fields voucher_fields
leaves = record { four = refl; eight = refl; none = refl }
