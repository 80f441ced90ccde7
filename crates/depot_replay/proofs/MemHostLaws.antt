-- What a call on a node makes of its disk and its journal, and a stop that falls into it.
use Rattle.std.proofs.Common.{◌≡◌, ◌≤◌, ◌<◌, ℕ, suc, ◌+◌, ◌-◌, ◌*◌, List, [], ◌∷◌, ◌++◌, length, length-append, map, take, drop, nat_le, get_or, false, Option, None, Some, refl, sym, ap, subst, ◌∙◌, inr, arith}
use Rattle.std.proofs.Math.Seq.{drop-cons}
use Rattle.std.proofs.lemmas.Bool.{le-leb, lt-leb}
use Rattle.std.proofs.lemmas.List.{length-map, map-append, take-map, take_at, take-append-drop}
use Rattle.std.proofs.lemmas.List.Sums.{sum_by-cons}
use Rattle.std.proofs.lemmas.Option.{slice_get-get_or, same_Some}
use Rattle.depot_base.specs.Calls.{Call, made, FailsAmong, calls_to_append_all}
use Rattle.depot_base.specs.File.{AreWithinLimits, StandsFor, blocks, framed}
use Rattle.depot_base.specs.declared.record.Record.{Record}
use Rattle.depot_base.proofs.CallLaws.{framed_long}
use Rattle.depot_model.specs.checks.Checks.{Setting}
use Rattle.depot_model.specs.journals.Lawful.{IsLawful, is_empty}
use Rattle.depot_model.specs.texts.Records.{journal_bytes, text_of_record}
use Rattle.depot_model.specs.journals.Stops.{HasRecords, calls_to_record}
use Rattle.depot_laws.proofs.own_updates.OwnTexts.{lawful_is_light, lawful_is_short}
use Rattle.depot_outside.specs.Stopping.{State, CallsLead}
use Rattle.depot_world.specs.Run.{PendingStop, Host}
use Rattle.depot_requests.specs.Effects.{Effect}
use Rattle.depot_world.specs.ScheduleStops.{journal_left, standing_after, stopped_with, event_result, result_by}
use Rattle.depot_replay.specs.Disks.{Stopped, pending_of}
use Rattle.depot_replay.specs.MemHosts.{IsKeptOn, StandIn}
use Rattle.depot_replay.proofs.DiskAppends.{appends_rest, appends_stand, stopped_appending}
use Rattle.depot_replay.proofs.DiskStops.{comes_after, nearer_after, none_waits_after}

-- ---- the file of a journal

get_behind : (xs ys : List ℕ) (y d : ℕ) → get_or (xs ++ y ∷ ys) (length xs) d ≡ y
get_behind [] ys y d = refl
get_behind (x ∷ xs) ys y d = get_behind xs ys y d

pub stand_in : (file : List ℕ) (bodies : List (List ℕ)) → StandsFor file bodies → StandIn file bodies
stand_in file bodies (gate, rest, closed, parts) =
    let inside : length (blocks bodies) < length file = omega (arith, ap length parts, length-append (blocks bodies) (gate ∷ rest)) in
    record {
      inside = inside;
      front = ap (take (length (blocks bodies))) parts ∙ take_at (blocks bodies) (gate ∷ rest) (length (blocks bodies)) refl;
      closed = λ one.
          let at : get_or file (length (blocks bodies)) 0 ≡ gate = ap (λ (f : List ℕ). get_or f (length (blocks bodies)) 0) parts ∙ get_behind (blocks bodies) rest gate 0 in
          let both : Some (get_or file (length (blocks bodies)) 0) ≡ Some 1 = sym (slice_get-get_or file (length (blocks bodies)) 0 inside) ∙ one in
          closed cc;
    }

pub stands_for : (file : List ℕ) (bodies : List (List ℕ)) → StandIn file bodies → StandsFor file bodies
stands_for file bodies s =
    let n = length (blocks bodies) in (
      get_or file n 0,
      drop (suc n) file,
      λ one. s.closed (slice_get-get_or file n 0 s.inside ∙ ap (λ (g : ℕ). Some g) one),
      sym (take-append-drop n file) ∙ ap (λ (x : List ℕ). x ++ drop n file) s.front ∙ ap (λ (x : List ℕ). blocks bodies ++ x) (drop-cons file n 0 s.inside),
    )

texts_long : (J : List Record) → 1 + length (blocks (map text_of_record J)) ≡ journal_bytes J
texts_long [] = refl
texts_long (r ∷ J) = omega (arith, texts_long J, sum_by-cons (λ (q : Record). 5 + length (text_of_record q)) r J, length-append (framed (text_of_record r)) (blocks (map text_of_record J)), framed_long (text_of_record r))

within : (here : Setting) (J : List Record) → IsLawful here J → AreWithinLimits (map text_of_record J)
within here J l = record {
  records = omega (arith, lawful_is_short here J l, length-map J text_of_record);
  bytes = omega (arith, lawful_is_light here J l, texts_long J);
}

-- the file has these records
pub has_records : (here : Setting) (file : List ℕ) (J : List Record) → IsLawful here J → StandIn file (map text_of_record J) → HasRecords J file
has_records here file J l s = inr (stands_for file (map text_of_record J) s, within here J l)

-- and more than one byte
pub two_bytes : (file : List ℕ) (J : List Record) → is_empty J ≡ false → StandIn file (map text_of_record J) → 2 ≤ length file
two_bytes file [] some s = absurd cc
two_bytes file (r ∷ J) some s = omega (arith, s.inside, length-append (framed (text_of_record r)) (blocks (map text_of_record J)), framed_long (text_of_record r))

-- ---- calls that went well

calls_many : (gate : ℕ) (texts : List (List ℕ)) → length (calls_to_append_all gate texts) ≡ 4 * length texts
calls_many gate [] = refl
calls_many gate (t ∷ texts) = omega (arith, calls_many (gate + (5 + length t)) texts)

-- a record is appended by four calls
pub calls_counted : (J new : List Record) → length (calls_to_record J new) ≡ 4 * length new
calls_counted J new = calls_many (length (blocks (map text_of_record J))) (map text_of_record new) ∙ ap (λ (n : ℕ). 4 * n) (length-map new text_of_record)

-- the stop that waits comes in a call to come
abbrev pub IsToCome : State → Type 0
IsToCome s = (a : PendingStop) → pending_of s.next ≡ Some a → 1 ≤ a.call

pub to_come_after : (s t : State) (calls : List Call) → IsToCome s → CallsLead s (made calls) t → IsToCome t
to_come_after s t calls to_come led a waits = by_pending (pending_of s.next) refl where
  by_pending : (o : Option PendingStop) → pending_of s.next ≡ o → 1 ≤ a.call
  by_pending None none = let never : None ≡ Some a = sym (none_waits_after s t calls led none) ∙ waits in absurd cc
  by_pending (Some b) is =
      let same = same_Some (record { call = b.call - length calls; image = b.image }) a (sym (nearer_after s t calls b led is) ∙ waits) in
      omega (arith, comes_after s t calls b led is (to_come b is), ap (λ (x : PendingStop). x.call) same)

-- the disk has the records that were appended, too
pub kept_after : (s t : State) (J new : List Record) → IsKeptOn s J → CallsLead s (made (calls_to_record J new)) t → IsKeptOn t (J ++ new)
kept_after s t J new kept led = record {
  at_rest = appends_rest s t (length (blocks (map text_of_record J))) (map text_of_record new) kept.at_rest led;
  stand = subst (StandIn t.file) (sym (map-append text_of_record J new)) (stand_in t.file (map text_of_record J ++ map text_of_record new)
      (appends_stand s t (map text_of_record J) (map text_of_record new) kept.at_rest (stands_for s.file (map text_of_record J) kept.stand) led));
  to_come = to_come_after s t (calls_to_record J new) kept.to_come led;
}

-- the event went without a crash, and the stop that is set is so many calls nearer
pub went_well : (x : Host) (d : Effect) (s t : State) (calls : List Call) → x.pending ≡ pending_of s.next → IsToCome s → CallsLead s (made calls) t → d.calls ≡ length calls → event_result x d ≡ result_by x (pending_of t.next) d
unfolding event_result
went_well x d s t calls same to_come led count = by_pending (pending_of s.next) refl where
  by_pending : (o : Option PendingStop) → pending_of s.next ≡ o → event_result x d ≡ result_by x (pending_of t.next) d
  by_pending None none = rw (same ∙ none, none_waits_after s t calls led none) refl
  by_pending (Some a) is =
      let behind : nat_le a.call d.calls ≡ false = lt-leb a.call d.calls (omega (arith, comes_after s t calls a led is (to_come a is), count)) in
      let left : Some (record { call = a.call - d.calls; image = a.image }) ≡ pending_of t.next = ap (λ (n : ℕ). Some (record { call = a.call - n; image = a.image })) count ∙ sym (nearer_after s t calls a led is) in
      rw (same ∙ is, behind) (ap (λ (o : Option PendingStop). result_by x o d) left)

-- ---- a stop

-- the stop falls into the event
pub went_cut : (x : Host) (d : Effect) (s t : State) (cut : Stopped s t d.calls) → x.pending ≡ pending_of s.next → event_result x d ≡ stopped_with x (journal_left x.correct.journal d.journal cut.pending)
unfolding event_result
went_cut x d s t cut same = rw (same ∙ cut.waited, le-leb cut.pending.call d.calls cut.within) refl

-- Of the records to be appended, as many are kept as a run says, and no stop is set.
pub record IsCut (s t : State) (J new : List Record) : Type 0 where
  pub stopped : Stopped s t (4 * length new)
  pub kept : IsKeptOn t (J ++ take (standing_after stopped.pending) new)

pub none_to_come : (t : State) → pending_of t.next ≡ None → IsToCome t
none_to_come t none a waits = let never : None ≡ Some a = sym none ∙ waits in absurd cc

take_texts : (n : ℕ) (new : List Record) → take n (map text_of_record new) ≡ map text_of_record (take n new)
take_texts n new = take-map text_of_record n new

pub cut_short : (s t : State) (J new : List Record) → IsKeptOn s J → FailsAmong CallsLead s t (calls_to_record J new) → IsCut s t J new
cut_short s t J new kept fails =
    let x = stopped_appending s t (map text_of_record J) (map text_of_record new) kept.at_rest (stands_for s.file (map text_of_record J) kept.stand) fails in
    let some : 4 * length (map text_of_record new) ≡ 4 * length new = ap (λ (n : ℕ). 4 * n) (length-map new text_of_record) in
    let n = standing_after x.stopped.pending in
    record {
      stopped = record { pending = x.stopped.pending; waited = x.stopped.waited; within = omega (arith, x.stopped.within, some); at_rest = x.stopped.at_rest; none_waits = x.stopped.none_waits };
      kept = record {
        at_rest = x.stopped.at_rest;
        stand = subst (StandIn t.file) (ap (λ (y : List (List ℕ)). map text_of_record J ++ y) (take_texts n new) ∙ sym (map-append text_of_record J (take n new))) (stand_in t.file _ x.stands);
        to_come = none_to_come t x.stopped.none_waits;
      };
    }
