-- Calls on a disk in memory: which of them fail, and the states that they lead to.
use Rattle.std.proofs.Common.{◌≡◌, ◌↔◌, ℕ, List, Bool, true, false, Option, None, Some, Contains, refl, sym, subst, ap, ◌∙◌}
use Rattle.depot_base.specs.Calls.{Call, asks_length, reads_at, writes_at, syncs}
use Rattle.depot_outside.specs.Images.{Moment, synced_as}
use Rattle.depot_outside.specs.StopImages.{counted_down, image_due, left_by}
use Rattle.depot_outside.specs.Stopping.{State, IsOutcome, after_call, one_call_later, done_before_stop, done_by, left_as}
use Rattle.depot_outside.specs.declared.stops.Image.{Image}
use Rattle.depot_outside.specs.declared.stops.Stop.{Stop}
use Rattle.depot_outside.specs.declared.stops.Turn.TheVariants as turn

-- ---- whether a call fails, from what is said of the turn

pub goes : (s : State) (made : ℕ) → made ≡ (one_call_later s).made → image_due s.next ≡ None → ((turn.Made ≡ turn.Fails) ↔ ((image_due s.next ≡ None) × Contains s.fails made)) → IsOutcome s false
unfolding IsOutcome
goes s made is none failing =
    rw (none, IsOutcome) (λ (wrong : false ≡ true). absurd cc, λ among. let wrong : turn.Made ≡ turn.Fails = failing.1 (none, subst (Contains s.fails) (sym is) among) in absurd cc)

pub fails : (s : State) (made : ℕ) → made ≡ (one_call_later s).made → image_due s.next ≡ None → ((turn.Fails ≡ turn.Fails) ↔ ((image_due s.next ≡ None) × Contains s.fails made)) → IsOutcome s true
unfolding IsOutcome
fails s made is none failing = rw (none, IsOutcome) (λ _. subst (Contains s.fails) is (failing.0 refl).1, λ _. refl)

pub stops : (s : State) (image : Image) → image_due s.next ≡ Some image → IsOutcome s true
unfolding IsOutcome
stops s image is = rw (is, IsOutcome) refl

-- no stop is due in a call that doesn't fail
no_stop : (s : State) (next : Option Image) → image_due s.next ≡ next → IsOutcome s false → image_due s.next ≡ None
unfolding IsOutcome
no_stop s None is outcome = is
no_stop s (Some image) is outcome = let wrong : false ≡ true = rw (is, IsOutcome) at outcome in absurd cc

-- ---- the state after it

abbrev state : List ℕ → Moment → Option Stop → List ℕ → ℕ → State
state file unsynced next fails made = record { file = file; unsynced = unsynced; next = next; fails = fails; made = made }

same_parts : (a b : List ℕ) (m n : Moment) (p q : Option Stop) (k l : List ℕ) (i j : ℕ) → a ≡ b → m ≡ n → p ≡ q → k ≡ l → i ≡ j → state a m p k i ≡ state b n q l j
same_parts a b m n p q k l i j file unsynced next fails made = cc

-- this file and moment, and of the state before: one call more was made, and the stop is a call nearer
abbrev counted_with : State → List ℕ → Moment → State
counted_with s file unsynced = state file unsynced (counted_down s.next) s.fails (one_call_later s).made

counted_is : (s t : State) (file : List ℕ) (unsynced : Moment) → t.next ≡ counted_down s.next → t.fails ≡ s.fails → t.made ≡ (one_call_later s).made → t.file ≡ file → t.unsynced ≡ unsynced → t ≡ counted_with s file unsynced
counted_is s t file unsynced next fails made same_file same_moment =
    same_parts t.file file t.unsynced unsynced t.next (counted_down s.next) t.fails s.fails t.made (one_call_later s).made same_file same_moment next fails made

counts_done : (call : Call) (s : State) → one_call_later (done_by call s) ≡ counted_with s (done_by call s).file (done_by call s).unsynced
unfolding done_by
counts_done asks_length s = refl
counts_done (reads_at at count) s = refl
counts_done (writes_at at bytes) s = refl
counts_done syncs s = refl

-- the crash image of a stop in this call
abbrev left_in : Call → Image → State → List ℕ
left_in call image s = left_by image (done_before_stop call s).unsynced (done_before_stop call s).file

counts_stop : (call : Call) (image : Image) (s : State) → one_call_later (left_as image (done_before_stop call s)) ≡ counted_with s (left_in call image s) (synced_as (left_in call image s))
unfolding done_before_stop done_by
counts_stop asks_length image s = refl
counts_stop (reads_at at count) image s = refl
counts_stop (writes_at at bytes) image s = refl
counts_stop syncs image s = refl

pub led_on : (s t : State) (call : Call) → image_due s.next ≡ None → t.next ≡ counted_down s.next → t.fails ≡ s.fails → t.made ≡ (one_call_later s).made
    → t.file ≡ (done_by call s).file → t.unsynced ≡ (done_by call s).unsynced → t ≡ after_call s (record { call = call; failed = false })
unfolding after_call
led_on s t call none next fails made file unsynced = rw (none, after_call) (counted_is s t (done_by call s).file (done_by call s).unsynced next fails made file unsynced ∙ sym (counts_done call s))

pub led_nowhere : (s t : State) (call : Call) → image_due s.next ≡ None → t.next ≡ counted_down s.next → t.fails ≡ s.fails → t.made ≡ (one_call_later s).made
    → t.file ≡ s.file → t.unsynced ≡ s.unsynced → t ≡ after_call s (record { call = call; failed = true })
unfolding after_call
led_nowhere s t call none next fails made file unsynced = rw (none, after_call) (counted_is s t s.file s.unsynced next fails made file unsynced)

pub led_to_stop : (s t : State) (call : Call) (image : Image) → image_due s.next ≡ Some image → t.next ≡ counted_down s.next → t.fails ≡ s.fails → t.made ≡ (one_call_later s).made
    → t.file ≡ left_in call image s → t.unsynced ≡ synced_as t.file → t ≡ after_call s (record { call = call; failed = true })
unfolding after_call
led_to_stop s t call image stop next fails made file unsynced =
    rw (stop, after_call) (counted_is s t (left_in call image s) (synced_as (left_in call image s)) next fails made file (unsynced ∙ ap synced_as file) ∙ sym (counts_stop call image s))

-- ---- calls that begin as asking for the length does

pub as_read : (s : State) (at count : ℕ) (failed : Bool) → after_call s (record { call = asks_length; failed = failed }) ≡ after_call s (record { call = reads_at at count; failed = failed })
unfolding after_call done_by done_before_stop
as_read s at count failed = refl

pub as_failed_sync : (s : State) → after_call s (record { call = asks_length; failed = true }) ≡ after_call s (record { call = syncs; failed = true })
unfolding after_call done_by done_before_stop
as_failed_sync s = refl

-- a sync that goes well, of the file that it begins with
pub as_sync : (s t u : State) → IsOutcome s false → t ≡ after_call s (record { call = asks_length; failed = false }) → u.next ≡ t.next → u.fails ≡ t.fails → u.made ≡ t.made
    → u.file ≡ t.file → u.unsynced ≡ synced_as t.file → u ≡ after_call s (record { call = syncs; failed = false })
unfolding after_call done_by
as_sync s t u outcome led next fails made file unsynced =
    let none = no_stop s (image_due s.next) refl outcome in
    let is : t ≡ one_call_later s = led ∙ rw (none, after_call) refl in
    led_on s u syncs none (next ∙ ap (λ (x : State). x.next) is) (fails ∙ ap (λ (x : State). x.fails) is) (made ∙ ap (λ (x : State). x.made) is)
    (file ∙ ap (λ (x : State). x.file) is) (unsynced ∙ ap (λ (x : State). synced_as x.file) is)
