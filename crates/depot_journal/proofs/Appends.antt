-- Appending a list of records to a journal: its limits, its room, and each moment of it.
use Rattle.std.proofs.Common.{◌≡◌, ◌≤◌, inl, inr, ℕ, ◌+◌, ◌-◌, ◌*◌, ◌^◌, min, List, [], ◌∷◌, ◌++◌, length, length-append, take, drop, sym, ◌∙◌, ap, subst, arith, append-nil, take-append-drop}
use Rattle.std.proofs.lemmas.List.{take_all}
use Rattle.depot_base.specs.declared.limits.TheConstants.{MOST_RECORDS}
use Rattle.depot_base.specs.Disk.{Elapses, LeavesOnly, Only, Within}
use Rattle.depot_base.specs.File.{AreWithinLimits, HasBodyFront, FitsFile, AreBodiesCutShort, IsFileOf, PassesLimit, StandsFor, blocks, framed}
use Rattle.depot_base.specs.declared.check.FullOf.{FullOf}
use Rattle.depot_base.specs.declared.check.FullOf.TheVariants as full_of
use Rattle.depot_journal.specs.WriteSteps.{FailsAt, StandsBetween, StandsTo}
use Rattle.depot_journal.specs.JournalView.{IsReserved}
use Rattle.depot_base.proofs.CallLaws.{framed_long}
use Rattle.depot_journal.proofs.Moments.{started, goes_on, joined, weaker}
use Rattle.depot_base.proofs.Blocks.{blocks-append}
use Rattle.depot_journal.proofs.Walk.{stands_of}

-- a record takes 5 bytes more than its body
pub blocks_many : (bodies : List (List ℕ)) → 5 * length bodies ≤ length (blocks bodies)
blocks_many [] = omega arith
blocks_many (x ∷ bodies) = omega (arith, blocks_many bodies, length-append (framed x) (blocks bodies), framed_long x)

-- no number was cut
pub counted : (old new : List (List ℕ)) (records bytes : ℕ) → FitsFile old records bytes → bytes ≡ min (length (blocks new)) (2 ^ 64 - 1) → bytes ≡ length (blocks new)
counted old new records bytes room long = omega (arith, long, room.bytes_fit)

pub room_counted : (old new : List (List ℕ)) (records bytes : ℕ) → FitsFile old records bytes → records ≡ length new → bytes ≡ length (blocks new) → FitsFile old (length new) (length (blocks new))
room_counted old new records bytes room many long = record { records_fit = omega (arith, room.records_fit, many); bytes_fit = omega (arith, room.bytes_fit, long) }

-- the limit is that of the records themselves
pub limit_counted : (old new : List (List ℕ)) (records bytes : ℕ) (what : FullOf) (number : ℕ) → records ≡ length new → bytes ≡ min (length (blocks new)) (2 ^ 64 - 1) → PassesLimit old records bytes what number
    → PassesLimit old (length new) (length (blocks new)) what number
limit_counted old new records bytes full_of.Records number many long p = (p.0, omega (arith, p.1, many))
limit_counted old new records bytes full_of.Bytes number many long p = (p.0, omega (arith, p.1, many), omega (arith, p.2, long))
limit_counted old new records bytes full_of.Writers number many long p = p

-- a prefix of records for which there is room keeps to the limits
pub front_within : (old new : List (List ℕ)) (n records bytes : ℕ) → FitsFile old records bytes → records ≡ length new → bytes ≡ length (blocks new) → AreWithinLimits (old ++ take n new)
front_within old new n records bytes room many long =
    let parts : length (blocks new) ≡ length (blocks (take n new)) + length (blocks (drop n new)) = ap (λ (l : List (List ℕ)). length (blocks l)) (sym (take-append-drop n new)) ∙ blocks-append (take n new) (drop n new) in
    let counts : length new ≡ length (take n new) + length (drop n new) = ap length (sym (take-append-drop n new)) ∙ length-append (take n new) (drop n new) in
    record {
      records = omega (arith, length-append old (take n new), room.records_fit, many, counts);
      bytes = omega (arith, blocks-append old (take n new), room.bytes_fit, long, parts);
    }

pub all_within : (old new texts : List (List ℕ)) (records bytes : ℕ) → FitsFile old records bytes → records ≡ length new → bytes ≡ length (blocks new) → texts ≡ old ++ new → AreWithinLimits texts
all_within old new texts records bytes room many long is =
    subst AreWithinLimits (ap (λ (l : List (List ℕ)). old ++ l) (take_all (length new) new (omega arith)) ∙ sym is) (front_within old new (length new) records bytes room many long)

-- what is left of the room
pub reserved_less : (records bytes held long spans_capacity bytes_capacity disk_bytes disk_calls more n held' long' spans_capacity' bytes_capacity' disk_bytes' disk_calls' : ℕ)
    → IsReserved records bytes held long spans_capacity bytes_capacity disk_bytes disk_calls → more ≤ records → n ≤ bytes → held + more ≤ MOST_RECORDS → held' ≡ held + more → long' ≤ long + (5 * more + n)
    → spans_capacity ≤ spans_capacity' → bytes_capacity ≤ bytes_capacity' → disk_bytes ≤ disk_bytes' + (6 * more + n) → disk_calls ≤ disk_calls' + 4 * more
    → IsReserved (records - more) (bytes - n) held' long' spans_capacity' bytes_capacity' disk_bytes' disk_calls'
reserved_less records bytes held long spans_capacity bytes_capacity disk_bytes disk_calls more n held' long' spans_capacity' bytes_capacity' disk_bytes' disk_calls' r few small fits held_is long_is spans_left bytes_left written_left calls_left =
    let left : min (records - more) (MOST_RECORDS - held') + more ≤ min records (MOST_RECORDS - held) = omega (arith, few, fits, held_is) in
    record {
      spans_fit = omega (arith, r.spans_fit, left, held_is, spans_left);
      blocks_fit = omega (arith, r.blocks_fit, left, small, long_is, bytes_left);
      written_fit = omega (arith, r.written_fit, left, small, written_left);
      calls_fit = omega (arith, r.calls_fit, left, calls_left);
    }

-- the file as it comes before the first of them
first : (file image : List ℕ) (old : List (List ℕ)) (end : ℕ) → StandsTo file old end → AreWithinLimits old → image ≡ file → IsFileOf image old
first file image old end stands within e = subst (λ (l : List ℕ). IsFileOf l old) (sym e) (inr (stands_of file old end stands, within))

-- with none of them
none_of : (old new : List (List ℕ)) (image : List ℕ) → IsFileOf image old → HasBodyFront old new image
none_of old new image has = record { count = 0; is = subst (IsFileOf image) (sym (append-nil old)) has }

-- with this many of them
some : (old at new : List (List ℕ)) (image : List ℕ) (records bytes : ℕ) → FitsFile old records bytes → records ≡ length new → bytes ≡ length (blocks new) → at ≡ old → StandsBetween at new image → HasBodyFront old new image
some old at new image records bytes room many long same s = record {
  count = s.count;
  is = inr (subst (λ (l : List (List ℕ)). StandsFor image (l ++ take s.count new)) same s.stands, front_within old new s.count records bytes room many long);
}

module _ {D : Type 0} (moment : D → ℕ) (left_since : D → ℕ → List ℕ → Type 0) where
  -- nothing was done
  pub unmoved : (old : D) (may_leave : List ℕ → Type 0) (file : List ℕ) (records : List (List ℕ)) (end : ℕ) → StandsTo file records end → AreWithinLimits records → Only file may_leave
      → ((image : List ℕ) → left_since old (moment old) image → may_leave image) → LeavesOnly moment left_since old old (λ image. IsFileOf image records)
  unmoved old may_leave file records end stands within only now = started moment left_since old (λ image. IsFileOf image records) (λ image left. first file image records end stands within (only image (now image left)))

  -- memory was reserved, and nothing was written
  pub found : (old mid : D) (may_leave may_leave' : List ℕ → Type 0) (file : List ℕ) (records : List (List ℕ)) (end : ℕ) → StandsTo file records end → AreWithinLimits records → Only file may_leave
      → ((image : List ℕ) → left_since old (moment old) image → may_leave image) → Elapses (moment old) (moment mid) (left_since old) (left_since mid) may_leave' → Within may_leave may_leave' → LeavesOnly moment left_since old mid (λ image. IsFileOf image records)
  found old mid may_leave may_leave' file records end stands within only now time images =
      goes_on moment left_since old old mid (λ image. IsFileOf image records) may_leave' (unmoved old may_leave file records end stands within only now) time (λ image here. first file image records end stands within (only image (images image here)))

  -- so no new record is there
  pub with_none : (old mid : D) (records new : List (List ℕ)) → LeavesOnly moment left_since old mid (λ image. IsFileOf image records) → LeavesOnly moment left_since old mid (HasBodyFront records new)
  with_none old mid records new one = weaker moment left_since old mid (λ image. IsFileOf image records) (HasBodyFront records new) one (none_of records new)

  -- and then the records were appended, one by one
  pub then_appended : (old mid end : D) (records at new : List (List ℕ)) (count bytes : ℕ) → FitsFile records count bytes → count ≡ length new → bytes ≡ length (blocks new) → at ≡ records
      → LeavesOnly moment left_since old mid (λ image. IsFileOf image records) → LeavesOnly moment left_since mid end (StandsBetween at new) → LeavesOnly moment left_since old end (HasBodyFront records new)
  then_appended old mid end records at new count bytes room many long same one two =
      joined moment left_since old mid end (HasBodyFront records new) (with_none old mid records new one) (weaker moment left_since mid end (StandsBetween at new) (HasBodyFront records new) two (λ image s. some records at new image count bytes room many long same s))

-- those before the failing one
pub cut_short : (old at new kept : List (List ℕ)) (told told' : Type 0) → (told' → told) → (images : List ℕ → Type 0) (records bytes : ℕ) → FitsFile old records bytes → records ≡ length new → bytes ≡ length (blocks new) → at ≡ old → FailsAt at new kept told images → AreBodiesCutShort old new kept told' images
cut_short old at new kept told told' same_told images records bytes room many long same f =
    let front : kept ≡ old ++ take f.count new = f.front ∙ ap (λ (l : List (List ℕ)). l ++ take f.count new) same in
    record {
      count = f.count;
      fewer = f.fewer;
      front = front;
      stable = λ holds image left. elim (f.stable (same_told holds) image left) [
        | inl s ↦ inl (inr (s, subst AreWithinLimits (sym front) (front_within old new f.count records bytes room many long)))
        | inr s ↦ inr (inr (subst (λ (l : List (List ℕ)). StandsFor image (l ++ take (f.count + 1) new)) same s, front_within old new (f.count + 1) records bytes room many long))
      ];
    }
