-- Small journals, computed: what an append writes, what its images hold, what is damaged, and what is none of these.
use Rattle.std.proofs.Common.{◌≡◌, ◌≤◌, ◌++◌, ◌∷◌, [], List, ℕ, length, length-append, refl, ap, inl, inr, arith}
use Rattle.depot_base.specs.Calls.{asks_length, reads_at, syncs, writes_at, calls_to_append, calls_to_append_all, calls_to_start}
use Rattle.depot_base.specs.Cursor.{numeral}
use Rattle.depot_base.specs.Disk.{IsWritten, IsTorn}
use Rattle.depot_base.proofs.CallLaws.{framed_long}
use Rattle.depot_base.specs.declared.check.FullOf.TheVariants as full_of
use Rattle.depot_journal.proofs.OneList.{not_damaged, one_list, one_place}
use Rattle.depot_base.specs.File.{blocks, framed, closed_block, FitsFile, PassesLimit, StandsFor, IsFileOf, IsDamagedAt}
use Rattle.depot_journal.specs.Groups.{calls_to_open, group_block}
use Rattle.depot_journal.specs.Mirrored.{IsMirror}

-- a record of the byte 7: an open gate, its length as four bytes, its body
one_record : blocks ((7 ∷ []) ∷ []) ≡ 1 ∷ 0 ∷ 0 ∷ 0 ∷ 1 ∷ 7 ∷ []
unfolding framed numeral
one_record = refl

-- what an append of it writes after the closed gate
its_block : closed_block (7 ∷ []) ≡ 0 ∷ 0 ∷ 0 ∷ 1 ∷ 7 ∷ 0 ∷ []
unfolding framed numeral
its_block = refl

-- The four calls of an append to the empty journal: the write after the gate, a sync, the write of the gate, a sync.

first_write : IsWritten (0 ∷ []) 1 (closed_block (7 ∷ [])) (0 ∷ 0 ∷ 0 ∷ 0 ∷ 1 ∷ 7 ∷ 0 ∷ [])
unfolding framed numeral
first_write = refl

second_write : IsWritten (0 ∷ 0 ∷ 0 ∷ 0 ∷ 1 ∷ 7 ∷ 0 ∷ []) 0 (1 ∷ []) (1 ∷ 0 ∷ 0 ∷ 0 ∷ 1 ∷ 7 ∷ 0 ∷ [])
second_write = refl

-- the calls that append this record and then an empty one
calls_of_two : calls_to_append_all 0 ((7 ∷ []) ∷ [] ∷ [])
    ≡ writes_at 1 (0 ∷ 0 ∷ 0 ∷ 1 ∷ 7 ∷ 0 ∷ []) ∷ syncs ∷ writes_at 0 (1 ∷ []) ∷ syncs ∷ writes_at 7 (0 ∷ 0 ∷ 0 ∷ 0 ∷ 0 ∷ []) ∷ syncs ∷ writes_at 6 (1 ∷ []) ∷ syncs ∷ []
unfolding framed numeral
calls_of_two = refl

-- the calls that append both as one group: the inner gate is written open
calls_of_a_group : calls_to_open 0 (group_block ((7 ∷ []) ∷ [] ∷ [])) ≡ writes_at 1 (0 ∷ 0 ∷ 0 ∷ 1 ∷ 7 ∷ 1 ∷ 0 ∷ 0 ∷ 0 ∷ 0 ∷ 0 ∷ []) ∷ syncs ∷ writes_at 0 (1 ∷ []) ∷ syncs ∷ []
unfolding framed numeral
calls_of_a_group = refl

-- a group of one record makes the calls of its append
calls_of_a_group_of_one : (gate : ℕ) (body : List ℕ) → calls_to_open gate (group_block (body ∷ [])) ≡ calls_to_append gate body
calls_of_a_group_of_one gate body = refl

-- a start of an empty file writes a closed gate, and one of a file with a record reads it
start_of_none : calls_to_start [] ≡ syncs ∷ asks_length ∷ writes_at 0 (0 ∷ []) ∷ syncs ∷ []
start_of_none = refl

start_of_one : calls_to_start (1 ∷ 0 ∷ 0 ∷ 0 ∷ 1 ∷ 7 ∷ 0 ∷ []) ≡ syncs ∷ asks_length ∷ reads_at 0 7 ∷ []
start_of_one = refl

start_of_one_writes_nothing : (bytes : List ℕ) → calls_to_start (1 ∷ 0 ∷ 0 ∷ 0 ∷ 1 ∷ 7 ∷ 0 ∷ []) ≡ syncs ∷ asks_length ∷ writes_at 0 bytes ∷ syncs ∷ [] → ⊥
start_of_one_writes_nothing bytes e = cc

-- An image of the first write that a stop cut short: no record.
torn_body : IsTorn 1 6 (0 ∷ []) (0 ∷ 255 ∷ 255 ∷ [])
torn_body = record { before = refl; after = refl; no_shorter = omega arith; no_longer = omega arith }

torn_body_holds_none : StandsFor (0 ∷ 255 ∷ 255 ∷ []) []
torn_body_holds_none = (0, 255 ∷ 255 ∷ [], omega arith, refl)

-- An image of the second write in which the gate holds another byte: no record.
torn_gate_holds_none : StandsFor (9 ∷ 0 ∷ 0 ∷ 0 ∷ 1 ∷ 7 ∷ 0 ∷ []) []
torn_gate_holds_none = (9, 0 ∷ 0 ∷ 0 ∷ 1 ∷ 7 ∷ 0 ∷ [], omega arith, refl)

-- A group that stands whole behind its closed gate: no record, though an inner gate is open.
closed_group_holds_none : StandsFor (0 ∷ 0 ∷ 0 ∷ 0 ∷ 1 ∷ 7 ∷ 1 ∷ 0 ∷ 0 ∷ 0 ∷ 0 ∷ 0 ∷ []) []
closed_group_holds_none = (0, 0 ∷ 0 ∷ 0 ∷ 1 ∷ 7 ∷ 1 ∷ 0 ∷ 0 ∷ 0 ∷ 0 ∷ 0 ∷ [], omega arith, refl)

-- With the gate opened: both of its records.
opened_group_holds_both : StandsFor (1 ∷ 0 ∷ 0 ∷ 0 ∷ 1 ∷ 7 ∷ 1 ∷ 0 ∷ 0 ∷ 0 ∷ 0 ∷ 0 ∷ []) ((7 ∷ []) ∷ [] ∷ [])
unfolding framed numeral
opened_group_holds_both = (0, [], omega arith, refl)

-- The image after it, and after the last sync the only one: the record.
opened_gate_holds_it : StandsFor (1 ∷ 0 ∷ 0 ∷ 0 ∷ 1 ∷ 7 ∷ 0 ∷ []) ((7 ∷ []) ∷ [])
unfolding framed numeral
opened_gate_holds_it = (0, [], omega arith, refl)

-- a file of one byte is the empty journal, also where the byte is an open gate
one_byte : IsFileOf (1 ∷ []) []
one_byte = inl (omega arith, refl)

-- four bytes say 2, and one byte and no gate follow them
is_cut : (body : List ℕ) (gate : ℕ) (more : List ℕ) → 0 ∷ 0 ∷ 0 ∷ 2 ∷ 7 ∷ [] ≡ framed body ++ gate ∷ more → ⊥
unfolding framed numeral
is_cut [] gate more e = cc
is_cut (b ∷ body) gate more e = absurd (omega (arith, ap length e, length-append (framed (b ∷ body)) (gate ∷ more), framed_long (b ∷ body)))

-- an open gate with no whole record after it
cut_body : IsDamagedAt (1 ∷ 0 ∷ 0 ∷ 0 ∷ 2 ∷ 7 ∷ []) 0
cut_body = record {
  good = [];
  rest = 0 ∷ 0 ∷ 0 ∷ 2 ∷ 7 ∷ [];
  long = omega arith;
  within = record { records = omega arith; bytes = omega arith };
  parts = refl;
  place = refl;
  bad = λ body gate more short e within. is_cut body gate more e;
}

-- ---- what isn't so

-- a stop changes no byte before the write
torn_before : IsTorn 1 6 (0 ∷ []) (9 ∷ []) → ⊥
torn_before t = let changed : 9 ∷ [] ≡ 0 ∷ [] = t.before in cc

-- an open gate with nothing after it is no journal
open_alone : IsFileOf (1 ∷ 0 ∷ []) [] → ⊥
open_alone (inl p) = let few : 2 ≤ 1 = p.0 in omega arith
open_alone (inr ((gate, rest, closed, parts), within)) = let same : 1 ∷ 0 ∷ [] ≡ gate ∷ rest = parts in closed cc

-- a file of one record has no other list of records, and isn't damaged
one_record_stands : IsFileOf (1 ∷ 0 ∷ 0 ∷ 0 ∷ 1 ∷ 7 ∷ 0 ∷ []) ((7 ∷ []) ∷ [])
unfolding framed numeral
one_record_stands = inr (opened_gate_holds_it, record { records = omega arith; bytes = omega arith })

not_empty : IsFileOf (1 ∷ 0 ∷ 0 ∷ 0 ∷ 1 ∷ 7 ∷ 0 ∷ []) [] → ⊥
not_empty empty = omega (arith, ap length (one_list _ _ _ one_record_stands empty))

good_is_undamaged : (at : ℕ) → IsDamagedAt (1 ∷ 0 ∷ 0 ∷ 0 ∷ 1 ∷ 7 ∷ 0 ∷ []) at → ⊥
good_is_undamaged at = not_damaged _ _ at one_record_stands

-- the cut body is damaged at its gate, and not a byte later
not_later : IsDamagedAt (1 ∷ 0 ∷ 0 ∷ 0 ∷ 2 ∷ 7 ∷ []) 1 → ⊥
not_later d = let same : 0 ≡ 1 = one_place _ 0 1 cut_body d in absurd (omega (arith, same))

-- ---- limits

-- an empty journal takes as many records as it may have, and no more
all_records : FitsFile [] 131072 0
all_records = record { records_fit = omega arith; bytes_fit = omega arith }

a_record_too_many : FitsFile [] 131073 0 → ⊥
a_record_too_many room = omega (arith, room.records_fit)

its_limit : PassesLimit [] 131073 0 full_of.Records 0
its_limit = (refl, omega arith)

-- the last gate is one of the bytes
all_bytes : FitsFile [] 1 1073741823
all_bytes = record { records_fit = omega arith; bytes_fit = omega arith }

a_byte_too_many : PassesLimit [] 1 1073741824 full_of.Bytes 1
a_byte_too_many = (refl, omega arith, omega arith)

-- ---- the mirror

one_mirrored : IsMirror (1 ∷ 0 ∷ 0 ∷ 0 ∷ 1 ∷ 7 ∷ []) (record { start = 5; end = 6 } ∷ [])
unfolding framed numeral
one_mirrored = record { parts = refl; within = (omega arith, omega arith, tt) }

-- a span that ends after the bytes
beyond : IsMirror (1 ∷ 0 ∷ 0 ∷ 0 ∷ 1 ∷ 7 ∷ []) (record { start = 5; end = 7 } ∷ []) → ⊥
beyond m = let most : 7 ≤ 6 = m.within.1 in omega arith
