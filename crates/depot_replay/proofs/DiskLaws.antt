-- Calls on a disk in memory, and the stop that is set on it.
use Rattle.std.proofs.Common.{◌≡◌, ◌↔◌, ◌≤◌, ◌<◌, ◌⊎◌, ℕ, zero, suc, ◌-◌, List, [], ◌∷◌, ◌++◌, nat_le, Bool, true, false, Option, None, Some, Contains, refl, sym, ap, subst, ◌∙◌, inl, inr, arith}
use Rattle.std.proofs.lemmas.Bool.{leb-true, leb-false, le-leb, lt-leb}
use Rattle.std.proofs.lemmas.Option.{same_Some}
use Rattle.depot_base.specs.Calls.{Call, Made, made, made_but_last, FailsAmong, asks_length, reads_at, writes_at, syncs}
use Rattle.depot_outside.specs.Images.{synced_as}
use Rattle.depot_outside.specs.StopImages.{counted_down, image_due, left_by, image_of_number}
use Rattle.depot_outside.specs.Stopping.{State, IsOutcome, CallsLead, after_call, one_call_later, done_before_stop, done_by, left_as}
use Rattle.depot_outside.specs.declared.stops.Image.{Image}
use Rattle.depot_outside.specs.declared.stops.Stop.{Stop}
use Rattle.depot_world.specs.Run.{PendingStop}
use Rattle.depot_replay.specs.Disks.{IsAtRest, pending_of, image_number}

-- ---- images and their numbers

number_numbered : (image : ℕ) → image ≤ 2 → image_number (image_of_number image) ≡ image
number_numbered zero h = refl
number_numbered (suc zero) h = refl
number_numbered (suc (suc n)) h = omega (arith, h)

abbrev pending_at : ℕ → ℕ → Option PendingStop
pending_at call image = Some (record { call = call; image = image })

-- a stop that is set by a number waits with that number
pub pending_numbered : (call image : ℕ) → image ≤ 2 → pending_of (Some (record { call = call; image = image_of_number image })) ≡ Some (record { call = call; image = image })
pending_numbered call image h = ap (pending_at call) (number_numbered image h)

-- ---- the stop that waits, in the next call and a call later

later_when : (stop : Stop) (now : Bool) → nat_le stop.call 1 ≡ now → image_due (Some stop) ≡ None → 2 ≤ stop.call
later_when stop true is none = let wrong : Some stop.image ≡ None = rw is at none in absurd cc
later_when stop false is none = leb-false stop.call 1 is

is_later : (stop : Stop) → image_due (Some stop) ≡ None → 2 ≤ stop.call
is_later stop none = later_when stop (nat_le stop.call 1) refl none

now_when : (stop : Stop) (image : Image) (now : Bool) → nat_le stop.call 1 ≡ now → image_due (Some stop) ≡ Some image → (stop.call ≤ 1) × (stop.image ≡ image)
now_when stop image true is due_now = let e : Some stop.image ≡ Some image = rw is at due_now in (leb-true stop.call 1 is, cc)
now_when stop image false is due_now = let wrong : None ≡ Some image = rw is at due_now in absurd cc

is_now : (stop : Stop) (image : Image) → image_due (Some stop) ≡ Some image → (stop.call ≤ 1) × (stop.image ≡ image)
is_now stop image due_now = now_when stop image (nat_le stop.call 1) refl due_now

nearer : (stop : Stop) → 2 ≤ stop.call → counted_down (Some stop) ≡ Some (record { call = stop.call - 1; image = stop.image })
nearer stop h = rw (lt-leb stop.call 1 h) refl

over : (next : Option Stop) (image : Image) → image_due next ≡ Some image → counted_down next ≡ None
over None image due_now = refl
over (Some stop) image due_now = rw (le-leb stop.call 1 (is_now stop image due_now).0) refl

-- none waits a call later
pub still_none : (next : Option Stop) → pending_of next ≡ None → pending_of (counted_down next) ≡ None
still_none None none = refl
still_none (Some stop) none = absurd cc

-- one that isn't due waits on
pub record WaitsOn (before after : Option PendingStop) (a : PendingStop) : Type 0 where
  pub later : 2 ≤ a.call
  pub waits : after ≡ Some (record { call = a.call - 1; image = a.image })

pub waits_a_call : (next : Option Stop) (a : PendingStop) → image_due next ≡ None → pending_of next ≡ Some a → WaitsOn (pending_of next) (pending_of (counted_down next)) a
waits_a_call None a none is = absurd cc
waits_a_call (Some stop) a none is =
    let h = is_later stop none in
    let same : record { call = stop.call; image = image_number stop.image } ≡ a = cc in
    subst (WaitsOn (pending_of (Some stop)) (pending_of (counted_down (Some stop)))) same (record { later = h; waits = ap pending_of (nearer stop h) })

-- The stop that is set comes in the call of this number, from 0, and leaves this image.
pub record ComesIn (next : Option Stop) (place : ℕ) (image : Image) : Type 0 where
  pub pending : PendingStop
  pub waits : pending_of next ≡ Some pending
  pub call_is : pending.call - 1 ≡ place
  pub image_is : pending.image ≡ image_number image

pub comes_now : (next : Option Stop) (image : Image) → image_due next ≡ Some image → ComesIn next 0 image
comes_now None image due_now = absurd cc
comes_now (Some stop) image due_now = let now = is_now stop image due_now in record { pending = record { call = stop.call; image = image_number stop.image }; waits = refl; call_is = omega (arith, now.0); image_is = ap image_number now.1 }

pub comes_later : (next : Option Stop) (place : ℕ) (image : Image) → image_due next ≡ None → ComesIn (counted_down next) place image → ComesIn next (suc place) image
comes_later None place image none c = let wrong : None ≡ Some c.pending = c.waits in absurd cc
comes_later (Some stop) place image none c =
    let h = is_later stop none in
    let same = same_Some (record { call = stop.call - 1; image = image_number stop.image }) c.pending (sym (ap pending_of (nearer stop h)) ∙ c.waits) in
    record {
      pending = record { call = stop.call; image = image_number stop.image };
      waits = refl;
      call_is = omega (arith, h, c.call_is, ap (λ (a : PendingStop). a.call) same);
      image_is = ap (λ (a : PendingStop). a.image) same ∙ c.image_is;
    }

-- ---- one call

abbrev pub went : Call → Made
went call = record { call = call; failed = false }

abbrev pub failing : Call → Made
failing call = record { call = call; failed = true }

-- A call went well: no stop was due.
pub record Gone (call : Call) (s u : State) : Type 0 where
  pub not_due : image_due s.next ≡ None
  pub next_is : u.next ≡ counted_down s.next
  pub fails_are : u.fails ≡ s.fails
  pub file_is : u.file ≡ (done_by call s).file
  pub unsynced_is : u.unsynced ≡ (done_by call s).unsynced

-- A stop came in a call.
pub record StoppedIn (call : Call) (s t : State) : Type 0 where
  pub image : Image
  pub is_due : image_due s.next ≡ Some image
  pub file_is : t.file ≡ left_by image (done_before_stop call s).unsynced (done_before_stop call s).file
  pub at_rest : IsAtRest t
  pub none_waits : pending_of t.next ≡ None

done_next : (call : Call) (s : State) → (done_by call s).next ≡ s.next
unfolding done_by
done_next asks_length s = refl
done_next (reads_at at count) s = refl
done_next (writes_at at bytes) s = refl
done_next syncs s = refl

done_fails : (call : Call) (s : State) → (done_by call s).fails ≡ s.fails
unfolding done_by
done_fails asks_length s = refl
done_fails (reads_at at count) s = refl
done_fails (writes_at at bytes) s = refl
done_fails syncs s = refl

before_next : (call : Call) (s : State) → (done_before_stop call s).next ≡ s.next
unfolding done_before_stop
before_next asks_length s = refl
before_next (reads_at at count) s = refl
before_next (writes_at at bytes) s = done_next (writes_at at bytes) s
before_next syncs s = refl

before_fails : (call : Call) (s : State) → (done_before_stop call s).fails ≡ s.fails
unfolding done_before_stop
before_fails asks_length s = refl
before_fails (reads_at at count) s = refl
before_fails (writes_at at bytes) s = done_fails (writes_at at bytes) s
before_fails syncs s = refl

gone_to : (call : Call) (s u : State) → image_due s.next ≡ None → u ≡ one_call_later (done_by call s) → Gone call s u
gone_to call s u none is = record {
  not_due = none;
  next_is = ap (λ (x : State). x.next) is ∙ ap counted_down (done_next call s);
  fails_are = ap (λ (x : State). x.fails) is ∙ done_fails call s;
  file_is = ap (λ (x : State). x.file) is;
  unsynced_is = ap (λ (x : State). x.unsynced) is;
}

gone_when : (call : Call) (s : State) (next : Option Image) → image_due s.next ≡ next → IsOutcome s false → Gone call s (after_call s (went call))
unfolding IsOutcome after_call
gone_when call s None none outcome = gone_to call s (after_call s (went call)) none (rw (none, after_call) refl)
gone_when call s (Some image) due_now outcome = let wrong : false ≡ true = rw (due_now, IsOutcome) at outcome in absurd cc

gone : (call : Call) (s : State) → IsOutcome s false → Gone call s (after_call s (went call))
gone call s outcome = gone_when call s (image_due s.next) refl outcome

stopped_to : (call : Call) (s t : State) (image : Image) → s.fails ≡ [] → image_due s.next ≡ Some image → t ≡ one_call_later (left_as image (done_before_stop call s)) → StoppedIn call s t
stopped_to call s t image faultless due_now is = record {
  image = image;
  is_due = due_now;
  file_is = ap (λ (x : State). x.file) is;
  at_rest = record { synced = ap (λ (x : State). x.unsynced) is ∙ sym (ap (λ (x : State). synced_as x.file) is); faultless = ap (λ (x : State). x.fails) is ∙ before_fails call s ∙ faultless };
  none_waits = ap (λ (x : State). pending_of x.next) is ∙ ap (λ (n : Option Stop). pending_of (counted_down n)) (before_next call s) ∙ ap pending_of (over s.next image due_now);
}

none_among : (fails : List ℕ) (n : ℕ) → fails ≡ [] → Contains fails n → ⊥
none_among [] n none among = let at : among.0 < 0 = among.1 in omega (arith, at)
none_among (k ∷ ks) n none among = cc

stopped_when : (call : Call) (s t : State) (next : Option Image) → image_due s.next ≡ next → s.fails ≡ [] → IsOutcome s true → t ≡ after_call s (failing call) → StoppedIn call s t
unfolding IsOutcome after_call
stopped_when call s t None none faultless outcome is =
    let fails : (true ≡ true) ↔ Contains s.fails (one_call_later s).made = rw (none, IsOutcome) at outcome in
    absurd (none_among s.fails (one_call_later s).made faultless (fails.0 refl))
stopped_when call s t (Some image) due_now faultless outcome is = stopped_to call s t image faultless due_now (is ∙ rw (due_now, after_call) refl)

stopped : (call : Call) (s t : State) → s.fails ≡ [] → IsOutcome s true → t ≡ after_call s (failing call) → StoppedIn call s t
stopped call s t faultless outcome is = stopped_when call s t (image_due s.next) refl faultless outcome is

-- ---- the first of more calls

pub led_on : (s t : State) (call : Call) (calls : List Call) → CallsLead s (made (call ∷ calls)) t → (u : State) × Gone call s u × CallsLead u (made calls) t
led_on s t call calls led = (after_call s (went call), gone call s led.0, led.1)

-- One of these calls failed, and those before it didn't.
abbrev pub FailsIn : State → List Call → State → Type 0
FailsIn s [] t = ⊥
FailsIn s (call ∷ calls) t = (IsOutcome s true × (t ≡ after_call s (failing call))) ⊎ (IsOutcome s false × FailsIn (after_call s (went call)) calls t)

in_parts : (s t : State) (before : List Call) (last : Call) (rest : List Call) → CallsLead s (made_but_last before last) t → FailsIn s (before ++ last ∷ rest) t
in_parts s t [] last rest led = inl (led.0, led.1)
in_parts s t (call ∷ calls) last rest led = inr (led.0, in_parts (after_call s (went call)) t calls last rest led.1)

pub fails_in : (s t : State) (calls : List Call) → FailsAmong CallsLead s t calls → FailsIn s calls t
fails_in s t calls f = subst (λ (l : List Call). FailsIn s l t) (sym f.parts) (in_parts s t f.before f.failing f.rest f.fails)

pub failed_on : (s t : State) (call : Call) (calls : List Call) → s.fails ≡ [] → FailsIn s (call ∷ calls) t → StoppedIn call s t ⊎ ((u : State) × Gone call s u × FailsIn u calls t)
failed_on s t call calls faultless (inl here) = inl (stopped call s t faultless here.0 here.1)
failed_on s t call calls faultless (inr later) = inr (after_call s (went call), gone call s later.0, later.1)
