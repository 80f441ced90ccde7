-- Worked examples of limits and of vouchers: each limit where it is met, and where it is just not.
use Rattle.std.proofs.Common.{◌≡◌, ℕ, zero, suc, ◌/◌, ◌%◌, ◌<◌, List, [], ◌∷◌, ◌++◌, length, map, replicate, take, drop, true, false, Some, None, Ok, Err, refl, ap, arith}
use Rattle.std.proofs.lemmas.List.{length-append}
use Rattle.sha2.specs.Sha256.{sha256, first_words, schedule, rounds, compress, hash_after, digest_bytes}
use Rattle.depot_base.specs.Writes.{put_one, one_change}
use Rattle.depot_base.specs.Cursor.{numeral}
use Rattle.depot_base.specs.Format.{number, bytes_of, inner, list_of}
use Rattle.depot_base.specs.Closed.{rest_of}
use Rattle.depot_base.specs.Parts.{dep}
use Rattle.depot_base.specs.Zeros.{zeros}
use Rattle.depot_base.specs.declared.update.Update.{Update}
use Rattle.depot_base.specs.declared.update.Dep.{Dep}
use Rattle.depot_base.specs.declared.voucher.Voucher.{Voucher}
use Rattle.depot_base.specs.declared.statement.Statement.TheVariants as statements
use Rattle.depot_base.specs.declared.record.Record.{Record}
use Rattle.depot_base.specs.declared.record.Record.TheVariants.{Birth, OwnPut, OwnVoucher, Foreign, Held}
use Rattle.depot_base.specs.declared.check.FullOf.TheVariants as full_of
use Rattle.depot_model.specs.declared.bundle.VoucherError.TheVariants as refused
use Rattle.depot_model.specs.texts.Texts.{update_fields, voucher_fields, update_body, voucher_body, statement, signed, id_of_update}
use Rattle.depot_model.specs.texts.Records.{birth, own_put, tagged, record_text}
use Rattle.depot_model.specs.updates.Order.{past}
use Rattle.depot_model.specs.updates.History.{leaves_of, put_by_id, by_id, history_text, history_hash}
use Rattle.depot_model.specs.texts.Roster.{key_of}
use Rattle.depot_model.specs.journals.Journal.{own, has_id, prev_of, named}
use Rattle.depot_model.specs.checks.Checks.{Setting}
use Rattle.depot_model.specs.checks.Own.{precedes_named, next_entries, next_own, leaf_count}
use Rattle.depot_model.specs.checks.Room.{foreign_leaves, full_with}
use Rattle.depot_model.specs.checks.Limits.{spent, tips, collides, spent_by, tips_of, collides_by, limit_of_own, limit_of_put, full, IsCutShort}
use Rattle.depot_model.specs.checks.Vouching.{is_foreign, is_mine_vouched, put_rising, rising, groups_behind, groups_of, new_vouchers, limit_of_new, limit_of_vouchers, Vouches}
use Rattle.depot_model.specs.exchange.Bundle.{Parcel, fitting}

-- node 1 with a tree of four leaves, and a scheme that takes every signature
abbrev here : Setting
here = record { verifies = λ key seq body signature. true; me = 1; listed = record { node = 1; key = record { root = zeros; height = 2 } } ∷ [] }

abbrev born : List Record
born = Birth 1 zeros ∷ []

-- an update of a writer, with these entries
abbrev written : ℕ → ℕ → List Dep → Update
written n seq deps = record { writer = n; seq = seq; clock = 1; prev = zeros; writes = put_one (107 ∷ []) zeros 0; deps = deps; history = zeros }

abbrev put : ℕ → List Record → List Record
put value J = J ++ OwnPut (next_own 1 J (one_change (107 ∷ []) (value ∷ []))) ((value ∷ []) ∷ []) ∷ []

-- four statements were signed
abbrev used_up : List Record
used_up = born ++ OwnPut (written 1 0 []) ([] ∷ []) ∷ OwnPut (written 1 1 []) ([] ∷ []) ∷ OwnPut (written 1 2 []) ([] ∷ []) ∷ OwnVoucher (record { node = 1; seq = 3; ids = zeros ∷ [] }) ∷ []

abbrev entry : Dep
entry = record { writer = 2; clock = 1; id = zeros }

-- ---- too few leaves are left

one_left : spent_by here (born ++ OwnPut (written 1 0 []) ([] ∷ []) ∷ OwnPut (written 1 1 []) ([] ∷ []) ∷ OwnPut (written 1 2 []) ([] ∷ []) ∷ []) 1 ≡ None
unfolding spent_by leaf_count key_of
one_left = refl

none_left : spent_by here used_up 1 ≡ Some (spent 4)
unfolding spent_by leaf_count key_of
none_left = refl

-- several at once may pass the leaves where one would not; the number is that of the statements now
two_at_once : spent_by here (born ++ OwnPut (written 1 0 []) ([] ∷ []) ∷ OwnPut (written 1 1 []) ([] ∷ []) ∷ OwnPut (written 1 2 []) ([] ∷ []) ∷ []) 2 ≡ Some (spent 3)
unfolding spent_by leaf_count key_of
two_at_once = refl

-- ---- too many entries

at_most : tips_of (written 1 0 (replicate 1024 entry)) ≡ None
unfolding tips_of
at_most = refl

one_too_many : tips_of (written 1 0 (replicate 1025 entry)) ≡ Some (tips 1025)
unfolding tips_of
one_too_many = refl

-- ---- an id that isn't fresh

fresh : collides_by born (written 1 0 []) ≡ None
unfolding sha256 first_words schedule rounds compress hash_after digest_bytes id_of_update update_body update_fields numeral number bytes_of list_of dep collides_by has_id
fresh = refl

taken : collides_by (born ++ OwnPut (written 1 0 []) ([] ∷ []) ∷ []) (written 1 0 []) ≡ Some (collides (id_of_update (written 1 0 [])))
unfolding sha256 first_words schedule rounds compress hash_after digest_bytes id_of_update update_body update_fields numeral number bytes_of list_of dep collides_by has_id
taken = refl

-- ---- no room: exactly this many records, and one more

full_records : (J : List Record) (r : Record) → length J ≡ 131072 → full_with 1 J (r ∷ []) ≡ Some (record { what = full_of.Records; number = 131072 })
unfolding full_with
full_records J r e = rw (length-append J (r ∷ []), e) refl

-- ---- the order of the limits

-- a leaf is asked for first
leaf_first : limit_of_own here used_up (written 1 0 (replicate 1025 entry)) [] ≡ Some (spent 4)
unfolding limit_of_own spent_by tips_of leaf_count key_of
leaf_first = refl

entries_next : limit_of_own here born (written 1 0 (replicate 1025 entry)) [] ≡ Some (tips 1025)
unfolding limit_of_own spent_by tips_of leaf_count key_of
entries_next = refl

-- room is looked for last
room_last : limit_of_own here (born ++ OwnPut (written 1 0 []) ([] ∷ []) ∷ []) (written 1 0 []) (replicate 2 (Held [])) ≡ Some (collides (id_of_update (written 1 0 [])))
unfolding sha256 first_words schedule rounds compress hash_after digest_bytes id_of_update update_body update_fields numeral number bytes_of list_of dep record_text tagged birth own_put inner signed statement voucher_body voucher_fields rest_of foreign_leaves leaves_of limit_of_own spent_by tips_of collides_by has_id leaf_count key_of full_with
room_last = refl

-- five puts with four leaves
four_puts : limit_of_put here (put 97 (put 97 (put 97 born))) (one_change (107 ∷ []) (97 ∷ [])) ≡ None
unfolding sha256 first_words schedule rounds compress hash_after digest_bytes id_of_update update_body update_fields numeral number bytes_of list_of dep record_text tagged birth own_put inner signed statement voucher_body voucher_fields rest_of foreign_leaves leaves_of next_own next_entries precedes_named prev_of named past by_id put_by_id history_hash history_text limit_of_put limit_of_own spent_by tips_of collides_by has_id leaf_count key_of full_with
four_puts = refl

five_puts : limit_of_put here used_up (one_change (107 ∷ []) (97 ∷ [])) ≡ Some (spent 4)
unfolding limit_of_put limit_of_own spent_by leaf_count key_of
five_puts = refl

-- ---- a call whose disk failed

-- none of one record was appended
cut_at_once : IsCutShort born (Held [] ∷ []) born
cut_at_once = record { count = 0; fewer = omega arith; grown = refl }

-- not all of them were
not_all : IsCutShort born (Held [] ∷ []) (born ++ Held [] ∷ []) → ⊥
not_all c = no_more c.count c.fewer c.grown where
  no_more : (n : ℕ) → n < 1 → born ++ Held [] ∷ [] ≡ born ++ take n (Held [] ∷ []) → ⊥
  no_more zero few e = let two_is_one : 2 ≡ 1 = ap length e in omega (arith, two_is_one)
  no_more (suc n) few e = omega (arith, few)

-- ---- byte strings in rising order

set_of_strings : rising ((2 ∷ []) ∷ (1 ∷ 9 ∷ []) ∷ (2 ∷ []) ∷ (1 ∷ []) ∷ []) ≡ (1 ∷ []) ∷ (1 ∷ 9 ∷ []) ∷ (2 ∷ []) ∷ []
unfolding rising put_rising
set_of_strings = refl

-- ---- groups

groups_of_two : groups_of {X = ℕ} 2 (1 ∷ 2 ∷ 3 ∷ 4 ∷ 5 ∷ []) ≡ (1 ∷ 2 ∷ []) ∷ (3 ∷ 4 ∷ []) ∷ (5 ∷ []) ∷ []
unfolding groups_of groups_behind
groups_of_two = refl

-- the last is not empty
groups_even : groups_of {X = ℕ} 2 (1 ∷ 2 ∷ 3 ∷ 4 ∷ []) ≡ (1 ∷ 2 ∷ []) ∷ (3 ∷ 4 ∷ []) ∷ []
unfolding groups_of groups_behind
groups_even = refl

no_groups : groups_of {X = ℕ} 2 [] ≡ []
unfolding groups_of
no_groups = refl

-- 256 ids are one voucher, 257 are two
one_voucher : map length (groups_of {X = ℕ} 256 (replicate 256 0)) ≡ 256 ∷ []
unfolding groups_of groups_behind
one_voucher = refl

two_vouchers : map length (groups_of {X = ℕ} 256 (replicate 257 0)) ≡ 256 ∷ 1 ∷ []
unfolding groups_of groups_behind
two_vouchers = refl

-- a voucher's ids are sorted, and its seq is the number of own statements
sorted_ids : new_vouchers 1 (born ++ OwnPut (written 1 0 []) ([] ∷ []) ∷ []) ((2 ∷ []) ∷ (1 ∷ []) ∷ []) ≡ record { node = 1; seq = 1; ids = (1 ∷ []) ∷ (2 ∷ []) ∷ [] } ∷ []
unfolding new_vouchers groups_of groups_behind rising put_rising
sorted_ids = refl

-- ---- vouching

abbrev from_two : Update
from_two = written 2 0 []

abbrev took : List Record
took = born ++ Foreign (record { statement = statements.Update from_two; body = []; signature = [] }) ∷ []

is_of_another : is_foreign 1 (from_two ∷ []) (id_of_update from_two) ≡ true
unfolding sha256 first_words schedule rounds compress hash_after digest_bytes id_of_update update_body update_fields numeral number bytes_of list_of dep
is_of_another = refl

-- an own update isn't
is_own : is_foreign 2 (from_two ∷ []) (id_of_update from_two) ≡ false
unfolding sha256 first_words schedule rounds compress hash_after digest_bytes id_of_update update_body update_fields numeral number bytes_of list_of dep
is_own = refl

-- nor is an id that nothing accepted has
is_nobodys : is_foreign 1 (from_two ∷ []) zeros ≡ false
unfolding sha256 first_words schedule rounds compress hash_after digest_bytes id_of_update update_body update_fields numeral number bytes_of list_of dep
is_nobodys = refl

not_yet : is_mine_vouched took (id_of_update from_two) ≡ false
not_yet = refl

now_vouched : is_mine_vouched (took ++ OwnVoucher (record { node = 1; seq = 0; ids = id_of_update from_two ∷ [] }) ∷ []) (id_of_update from_two) ≡ true
unfolding sha256 first_words schedule rounds compress hash_after digest_bytes id_of_update update_body update_fields numeral number bytes_of list_of dep
now_vouched = refl

vouches : Vouches here took (id_of_update from_two ∷ []) (Ok tt) (took ++ OwnVoucher (record { node = 1; seq = 0; ids = id_of_update from_two ∷ [] }) ∷ [])
unfolding sha256 first_words schedule rounds compress hash_after digest_bytes id_of_update update_body update_fields numeral number bytes_of list_of dep record_text tagged birth own_put inner signed statement voucher_body voucher_fields rest_of foreign_leaves leaves_of limit_of_vouchers limit_of_new spent_by new_vouchers groups_of groups_behind rising put_rising leaf_count key_of full_with
vouches = (refl, refl)

-- where no leaf is left, nothing is appended
vouches_not : Vouches here used_up (zeros ∷ []) (Err (refused.Spent 4)) used_up
unfolding limit_of_vouchers limit_of_new spent_by new_vouchers groups_of groups_behind leaf_count key_of
vouches_not = (refl, refl)

-- and no other answer than Memory or Stopped is right
vouches_never : (after : List Record) → Vouches here used_up (zeros ∷ []) (Ok tt) after → ⊥
unfolding limit_of_vouchers limit_of_new spent_by new_vouchers groups_of groups_behind leaf_count key_of
vouches_never after v = absurd cc where
  met : Some (spent 4) ≡ None
  met = v.0

-- ---- vouchers without a leaf, and without room

abbrev a_voucher : List Voucher
a_voucher = record { node = 1; seq = 4; ids = zeros ∷ [] } ∷ []

-- a leaf is asked for before room
no_leaf_and_no_room : (J : List Record) → length (own J) ≡ 4 → length J ≡ 131072 → limit_of_new here J a_voucher ≡ Some (spent 4)
unfolding limit_of_new spent_by leaf_count key_of
no_leaf_and_no_room J used e = rw used refl

no_room_alone : (J : List Record) → length (own J) ≡ 3 → length J ≡ 131072 → limit_of_new here J a_voucher ≡ Some (full (record { what = full_of.Records; number = 131072 }))
unfolding limit_of_new spent_by leaf_count key_of full_with
no_room_alone J used e = rw (used, length-append J, e) refl

-- ---- groups are cut in journal order

-- ids that fall
abbrev falling : ℕ → List (List ℕ)
falling zero = []
falling (suc n) = (n / 256 ∷ n % 256 ∷ []) ∷ falling n

-- of 257 the last is alone, though it is the least
the_last_alone : map (λ v. v.ids) (drop 1 (new_vouchers 1 born (falling 257))) ≡ ((0 ∷ 0 ∷ []) ∷ []) ∷ []
unfolding new_vouchers groups_of groups_behind rising put_rising
the_last_alone = refl

-- ---- what fits into a bundle

abbrev value_of_length : ℕ → Parcel
value_of_length n = record { told = []; values = replicate n 0 ∷ [] }

abbrev three : List Parcel
three = value_of_length 1 ∷ value_of_length 9 ∷ value_of_length 1 ∷ []

-- a frame of a value of n bytes has n + 5
all_fit : fitting 26 3 three ≡ three
unfolding fitting numeral
all_fit = refl

-- one byte less, and the last is left out
last_out : fitting 25 3 three ≡ value_of_length 1 ∷ value_of_length 9 ∷ []
unfolding fitting numeral
last_out = refl

-- what follows one that doesn't fit isn't sent, though it would fit
prefix_only : fitting 19 3 three ≡ value_of_length 1 ∷ []
unfolding fitting numeral
prefix_only = refl

-- this many frames at most
two_frames : fitting 1000 2 three ≡ value_of_length 1 ∷ value_of_length 9 ∷ []
unfolding fitting numeral
two_frames = refl

none_fits : fitting 5 3 three ≡ []
unfolding fitting numeral
none_fits = refl
