-- What is printed of events, one after the other.
use Rattle.std.proofs.Common.{◌≡◌, ℕ, suc, ◌+◌, ◌-◌, ◌<◌, ◌≤◌, List, [], ◌∷◌, ◌++◌, length, get_or, take, drop, IsTrue, Some, Result, Ok, Err, OnOk, OnErr, inr, refl, sym, ap, subst, ◌∙◌, append_assoc, length-append, take-append-drop, drop-cons, arith}
use Rattle.std.proofs.lemmas.Option.{slice_get-get_or}
use Rattle.std.specs.Prelude.{reverse}
use Rattle.std.proofs.lemmas.List.{append-nil, length-reverse, reverse-append, reverse-reverse, take_all}
use Rattle.depot_base.specs.Faults.{HasCause}
use Rattle.depot_base.specs.Reading.{AddsFrontOf}
use Rattle.depot_base.proofs.Writing.{begins_with, begins_further}
use Rattle.depot_base.proofs.GeneralLaws.{take_next}
use Rattle.depot_model.specs.lists.Lists.{IsIn}
use Rattle.depot_model.proofs.lists.Elements.{in_at}
use Rattle.depot_outside.specs.Told.{Sinks}
use Rattle.depot_schedule.specs.declared.event.Event.{Event}
use Rattle.depot_world.specs.Run.{Run}
use Rattle.depot_world.specs.Setups.{Setup}
use Rattle.depot_world.specs.Transcript.{done, lines_of, printed, run_after}
use Rattle.depot_simulation.specs.EachRun.{WritesFront, WritesLines}

-- ---- places

-- the item at a place of a list is one of it
pub on_at : {X : Type 0} (xs : List X) (i : ℕ) (x : X) → i < length xs → x ≡ get_or xs i x → IsIn x xs
on_at {X = X} xs i x within is = in_at xs i x (slice_get-get_or xs i x within ∙ ap (λ (y : X). Some y) (sym is))

-- ---- events, one after the other

run_after-append : (setup : Setup) (run : Run) (es fs : List Event) → run_after setup run (es ++ fs) ≡ run_after setup (run_after setup run es) fs
unfolding run_after
run_after-append setup run [] fs = refl
run_after-append setup run (e ∷ es) fs = run_after-append setup (done setup run e).run es fs

printed-append : (setup : Setup) (run : Run) (es fs : List Event) → printed setup run (es ++ fs) ≡ printed setup run es ++ printed setup (run_after setup run es) fs
unfolding printed run_after
printed-append setup run [] fs = refl
printed-append setup run (e ∷ es) fs =
    let d = done setup run e in
    ap (λ (t : List ℕ). lines_of e d ++ t) (printed-append setup d.run es fs) ∙ sym (append_assoc (lines_of e d) (printed setup d.run es) (printed setup (run_after setup d.run es) fs))

-- the run after one event more
pub run_more : (setup : Setup) (run : Run) (es : List Event) (i : ℕ) (e : Event) → i < length es → e ≡ get_or es i e → (done setup (run_after setup run (take i es)) e).run ≡ run_after setup run (take (i + 1) es)
unfolding run_after
run_more setup run es i e within is = sym (ap (run_after setup run) (take_next es i e within is) ∙ run_after-append setup run (take i es) (e ∷ []))

one_printed : (setup : Setup) (run : Run) (e : Event) → printed setup run (e ∷ []) ≡ lines_of e (done setup run e)
unfolding printed
one_printed setup run e = append-nil (lines_of e (done setup run e))

-- what is printed with it
pub printed_more : (setup : Setup) (run : Run) (es : List Event) (i : ℕ) (e : Event) (old before lines new : List ℕ) → i < length es → e ≡ get_or es i e → before ≡ old ++ printed setup run (take i es) → lines ≡ lines_of e (done setup (run_after setup run (take i es)) e)
    → new ≡ before ++ lines → new ≡ old ++ printed setup run (take (i + 1) es)
printed_more setup run es i e old before lines new within is so_far told written =
    let front = printed setup run (take i es) in
    let then = run_after setup run (take i es) in
    written ∙ ap (λ (t : List ℕ). t ++ lines) so_far ∙ append_assoc old front lines
    ∙ ap (λ (t : List ℕ). old ++ t) (sym (ap (printed setup run) (take_next es i e within is) ∙ printed-append setup run (take i es) (e ∷ []) ∙ ap (λ (t : List ℕ). front ++ t) (one_printed setup then e ∙ sym told)))

rest_printed : (setup : Setup) (run : Run) (es : List Event) (i : ℕ) → printed setup run es ≡ printed setup run (take i es) ++ printed setup (run_after setup run (take i es)) (drop i es)
rest_printed setup run es i = ap (printed setup run) (sym (take-append-drop i es)) ∙ printed-append setup run (take i es) (drop i es)

-- a prefix of it, where an event found no memory
pub front_before : (setup : Setup) (run : Run) (es : List Event) (i : ℕ) (old before : List ℕ) → before ≡ old ++ printed setup run (take i es) → AddsFrontOf old (printed setup run es) before
front_before setup run es i old before so_far =
    subst (λ (t : List ℕ). AddsFrontOf old t before) (sym (rest_printed setup run es i)) (begins_with old (printed setup run (take i es)) (printed setup (run_after setup run (take i es)) (drop i es)) before so_far)

-- a prefix of it, where an event's lines weren't all written
pub front_within : (setup : Setup) (run : Run) (es : List Event) (i : ℕ) (e : Event) (old before lines new : List ℕ) → i < length es → e ≡ get_or es i e → before ≡ old ++ printed setup run (take i es) → lines ≡ lines_of e (done setup (run_after setup run (take i es)) e)
    → AddsFrontOf before lines new → AddsFrontOf old (printed setup run es) new
unfolding printed
front_within setup run es i e old before lines new within is so_far told front =
    let then = run_after setup run (take i es) in
    let d = done setup then e in
    let rest : drop i es ≡ e ∷ drop (suc i) es = drop-cons es i e within ∙ ap (λ (x : Event). x ∷ drop (suc i) es) (sym is) in
    let whole : printed setup run es ≡ printed setup run (take i es) ++ (lines ++ printed setup d.run (drop (suc i) es)) =
    rest_printed setup run es i ∙ ap (λ (xs : List Event). printed setup run (take i es) ++ printed setup then xs) rest ∙ ap (λ (t : List ℕ). printed setup run (take i es) ++ (t ++ printed setup d.run (drop (suc i) es))) (sym told) in
    subst (λ (t : List ℕ). AddsFrontOf old t new) (sym whole)
    (begins_further old (printed setup run (take i es)) lines (printed setup d.run (drop (suc i) es)) new (subst (λ (b : List ℕ). AddsFrontOf b lines new) so_far front))

-- ---- a list that is played from the end of its reverse on

-- these are the last events of a list, the last one first
pub record AreToCome (es rest : List Event) : Type 0 where
  pub few : length rest ≤ length es
  pub are : reverse rest ≡ drop (length es - length rest) es

-- those before them
abbrev pub so_far : List Event → List Event → List Event
so_far es rest = take (length es - length rest) es

pub all_to_come : (es : List Event) → AreToCome es (reverse es)
all_to_come es =
    let none : length es - length (reverse es) ≡ 0 = omega (arith, length-reverse es) in
    record {
      few = omega (arith, length-reverse es);
      are = reverse-reverse es ∙ ap (λ (n : ℕ). drop n es) (sym none);
    }

pub none_so_far : (es : List Event) → so_far es (reverse es) ≡ []
none_so_far es = let none : length es - length (reverse es) ≡ 0 = omega (arith, length-reverse es) in ap (λ (n : ℕ). take n es) none

pub all_so_far : (es rest : List Event) → length rest ≡ 0 → so_far es rest ≡ es
all_so_far es rest none = take_all (length es - length rest) es (omega (arith, none))

-- an event is the next one of a list, and these are to come after it
pub record IsNext (es all rest : List Event) (e : Event) : Type 0 where
  pub within : length es - length all < length es
  pub is : e ≡ get_or es (length es - length all) e
  pub then : so_far es rest ≡ take (length es - length all + 1) es
  pub left : AreToCome es rest

pub next_is : (es all rest : List Event) (e : Event) → all ≡ rest ++ e ∷ [] → AreToCome es all → IsNext es all rest e
next_is es all rest e more left =
    let i = length es - length all in
    let long : length all ≡ length rest + 1 = ap (λ (xs : List Event). length xs) more ∙ length-append rest (e ∷ []) in
    let within : i < length es = omega (arith, long, left.few) in
    let turned : reverse all ≡ e ∷ reverse rest = ap (λ (xs : List Event). reverse xs) more ∙ reverse-append rest (e ∷ []) in
    let both : e ∷ reverse rest ≡ get_or es i e ∷ drop (suc i) es = sym turned ∙ left.are ∙ drop-cons es i e within in
    let next : length es - length rest ≡ suc i = omega (arith, long, left.few) in
    let tail : reverse rest ≡ drop (suc i) es = cc in
    record {
      within = within;
      is = cc;
      then = ap (λ (n : ℕ). take n es) (omega (arith, long, left.few));
      left = record { few = omega (arith, long, left.few); are = tail ∙ ap (λ (n : ℕ). drop n es) (sym next) };
    }

-- ---- faults

-- a call that didn't fail left the count as it was
pub no_fault : (before now : ℕ) (failed : Type 0) → HasCause before now failed → (failed → ⊥) → now ≡ before
no_fault before now failed cause none = let not_less : before < now → ⊥ = λ less. none (cause.only less) in omega (arith, cause.never_falls, not_less)

-- ---- one event

-- the lines of an event were written
pub lines_written : {X E P : Type 0} (result : Result X E) (Plays : List ℕ → P → Type 0) (sink : Sinks) (new : P) (text lines : List ℕ) → lines ≡ text → Plays lines new → (IsTrue sink.tells → OnOk result (sink.after ≡ sink.before ++ text))
    → OnOk result (WritesLines Plays sink new)
lines_written (Ok done) Plays sink new text lines is plays wrote = (text, (subst (λ (ls : List ℕ). Plays ls new) is plays, wrote))
lines_written (Err e) Plays sink new text lines is plays wrote = tt

-- or a prefix of them
pub front_written : {X E P : Type 0} (result : Result X E) (Plays : List ℕ → P → Type 0) (sink : Sinks) (new : P) (text lines : List ℕ) → lines ≡ text → Plays lines new → (IsTrue sink.tells → OnErr result (AddsFrontOf sink.before text sink.after))
    → OnErr result (WritesFront Plays sink new)
front_written (Ok done) Plays sink new text lines is plays wrote = tt
front_written (Err e) Plays sink new text lines is plays wrote = inr (text, (subst (λ (ls : List ℕ). Plays ls new) is plays, wrote))
