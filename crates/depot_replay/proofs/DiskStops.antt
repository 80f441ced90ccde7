-- When the stop that is set comes.
use Rattle.std.proofs.Common.{◌≡◌, ◌≤◌, ◌<◌, ℕ, suc, ◌-◌, List, [], ◌∷◌, length, Option, None, Some, sym, ap, subst, ◌∙◌, inl, inr, arith}
use Rattle.std.proofs.lemmas.Option.{same_Some}
use Rattle.depot_base.specs.Calls.{Call, made, FailsAmong}
use Rattle.depot_outside.specs.Stopping.{State, CallsLead}
use Rattle.depot_outside.specs.declared.stops.Image.{Image}
use Rattle.depot_outside.specs.declared.stops.Stop.{Stop}
use Rattle.depot_world.specs.Run.{PendingStop}
use Rattle.depot_replay.specs.Disks.{IsAtRest, Stopped, pending_of}
use Rattle.depot_replay.proofs.DiskLaws.{ComesIn, FailsIn, Gone, StoppedIn, comes_later, comes_now, failed_on, fails_in, led_on, still_none, waits_a_call}

-- ---- calls of which none fails

-- no stop waits
pub none_waits_after : (s t : State) (calls : List Call) → CallsLead s (made calls) t → pending_of s.next ≡ None → pending_of t.next ≡ None
none_waits_after s t [] led none = ap (λ (x : State). pending_of x.next) led ∙ none
none_waits_after s t (call ∷ calls) led none =
    let (u, gone, more) = led_on s t call calls led in
    none_waits_after u t calls more (ap pending_of gone.next_is ∙ still_none s.next none)

-- the stop that waits is so many calls nearer
pub nearer_after : (s t : State) (calls : List Call) (a : PendingStop) → CallsLead s (made calls) t → pending_of s.next ≡ Some a → pending_of t.next ≡ Some (record { call = a.call - length calls; image = a.image })
nearer_after s t [] a led waits = let none : a.call - 0 ≡ a.call = omega arith in ap (λ (x : State). pending_of x.next) led ∙ waits ∙ ap (λ (n : ℕ). Some (record { call = n; image = a.image })) (sym none)
nearer_after s t (call ∷ calls) a led waits =
    let (u, gone, more) = led_on s t call calls led in
    let on = waits_a_call s.next a gone.not_due waits in
    let less : a.call - 1 - length calls ≡ a.call - length (call ∷ calls) = omega arith in
    nearer_after u t calls (record { call = a.call - 1; image = a.image }) more (ap pending_of gone.next_is ∙ on.waits) ∙ ap (λ (n : ℕ). Some (record { call = n; image = a.image })) less

-- and it comes after them, where the next call has the number 1
pub comes_after : (s t : State) (calls : List Call) (a : PendingStop) → CallsLead s (made calls) t → pending_of s.next ≡ Some a → 1 ≤ a.call → length calls < a.call
comes_after s t [] a led waits from_one = from_one
comes_after s t (call ∷ calls) a led waits from_one =
    let (u, gone, more) = led_on s t call calls led in
    let on = waits_a_call s.next a gone.not_due waits in
    let rest = comes_after u t calls (record { call = a.call - 1; image = a.image }) more (ap pending_of gone.next_is ∙ on.waits) (omega (arith, on.later)) in
    omega (arith, rest, on.later)

-- ---- calls of which one fails

-- The stop that waited came in the call of this number, from 0, and the disk is at rest.
pub record StopsAt (s t : State) (place : ℕ) (image : Image) : Type 0 where
  pub comes : ComesIn s.next place image
  pub at_rest : IsAtRest t
  pub none_waits : pending_of t.next ≡ None

pub stops_now : (call : Call) (s t : State) (x : StoppedIn call s t) → StopsAt s t 0 x.image
stops_now call s t x = record { comes = comes_now s.next x.image x.is_due; at_rest = x.at_rest; none_waits = x.none_waits }

pub stops_later : (call : Call) (s u t : State) (place : ℕ) (image : Image) → Gone call s u → StopsAt u t place image → StopsAt s t (suc place) image
stops_later call s u t place image gone x =
    record { comes = comes_later s.next place image gone.not_due (subst (λ (n : Option Stop). ComesIn n place image) gone.next_is x.comes); at_rest = x.at_rest; none_waits = x.none_waits }

-- so the disk stopped in one of so many
abbrev pub stopped_at : (s t : State) (place : ℕ) (image : Image) (calls : ℕ) → StopsAt s t place image → place < calls → Stopped s t calls
stopped_at s t place image calls x h = record { pending = x.comes.pending; waited = x.comes.waits; within = omega (arith, h, x.comes.call_is); at_rest = x.at_rest; none_waits = x.none_waits }

-- It came in one of so many calls.
pub record StopsWithin (s t : State) (calls : ℕ) : Type 0 where
  pub place : ℕ
  pub image : Image
  pub within : place < calls
  pub stops : StopsAt s t place image

-- where no call is to fail, only a stop makes one fail
pub stops_within : (s t : State) (calls : List Call) → s.fails ≡ [] → FailsIn s calls t → StopsWithin s t (length calls)
stops_within s t [] none f = absurd f
stops_within s t (call ∷ calls) none f = elim (failed_on s t call calls none f) [
  | inl x ↦ record { place = 0; image = x.image; within = omega arith; stops = stops_now call s t x }
  | inr on ↦
      let more = stops_within on.0 t calls (on.1.fails_are ∙ none) on.2 in
      record { place = suc more.place; image = more.image; within = omega (arith, more.within); stops = stops_later call s on.0 t more.place more.image on.1 more.stops }
]

-- no call fails where no stop waits
pub none_fails : (s t : State) (calls : List Call) → IsAtRest s → pending_of s.next ≡ None → FailsAmong CallsLead s t calls → ⊥
none_fails s t calls rest none f =
    let w = stops_within s t calls rest.faultless (fails_in s t calls f) in
    let wrong : None ≡ Some w.stops.comes.pending = sym none ∙ w.stops.comes.waits in
    cc

-- and where it comes after these calls
pub none_fails_yet : (s t : State) (calls : List Call) (a : PendingStop) → IsAtRest s → pending_of s.next ≡ Some a → length calls < a.call → FailsAmong CallsLead s t calls → ⊥
none_fails_yet s t calls a rest waits behind f =
    let w = stops_within s t calls rest.faultless (fails_in s t calls f) in
    let same = ap (λ (x : PendingStop). x.call) (same_Some a w.stops.comes.pending (sym waits ∙ w.stops.comes.waits)) in
    omega (arith, behind, same, w.within, w.stops.comes.call_is)
