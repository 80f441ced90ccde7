-- What calls leave of a journal: in other words, of a part, where nothing is done, and one after another.
use Rattle.std.proofs.Common.{◌≡◌, ◌↔◌, ◌<◌, ◌≤◌, ℕ, Bool, true, false, List, [], ◌++◌, refl, sym, subst, ◌∙◌, arith, inl, inr}
use Rattle.depot_base.specs.Calls.{Made}
use Rattle.depot_base.specs.declared.record.Record.{Record}
use Rattle.depot_model.specs.journals.JournalCalls.{JournalView, journal_within, IsStable, StopsBy, KeepsDisk, Lasts, IsJournalCall}
use Rattle.depot_model.proofs.of_journals.CallsOnDisk.{nothing_called, calls_joined, calls_longer}
use Rattle.depot_model.proofs.of_journals.StopLaws.{idle_lasts, lasts_joined, lasts_longer}

-- ---- whether it is stopped

-- what runs is not stopped by a call in which the disk didn't fail
pub runs_on : (before : Bool) {now : Bool} {stopped failed : Type 0} → before ≡ false → StopsBy before now stopped failed → (failed → ⊥) → now ≡ false
runs_on false {now = false} runs s well = refl
runs_on false {now = true} runs s well = elim (s.left.0 refl) [ inl was ↦ absurd cc | inr f ↦ absurd (well f) ]
runs_on true runs s well = absurd cc

-- it never answers that it was stopped
pub never_answered : (before : Bool) {now : Bool} {stopped failed : Type 0} → before ≡ false → StopsBy before now stopped failed → stopped → ⊥
never_answered false runs s is = let never : false ≡ true = s.answered.0 is in cc
never_answered true runs s is = cc

-- an answer that doesn't come says so
pub never_stopped : (before : Bool) {stopped : Type 0} → before ≡ false → (stopped → ⊥) → stopped ↔ (before ≡ true)
never_stopped false runs never = (λ s. absurd (never s), λ is. absurd cc)
never_stopped true runs never = absurd cc

-- ---- in other words

module _ {N : Type 0} {v : JournalView N} {old new : N} {appends : List Record} {stopped failed nothing was_stopped was_failed was_nothing : Type 0}
    (stopped_so : was_stopped ↔ stopped) (failed_so : was_failed ↔ failed) (nothing_so : nothing → was_nothing) where
  -- the same call, whose answers are named otherwise
  pub renamed_call : IsJournalCall v old new appends was_stopped was_failed was_nothing → IsJournalCall v old new appends stopped failed nothing
  renamed_call c = record {
    stops = record {
      answered = (λ s. c.stops.answered.0 (stopped_so.1 s), λ is. stopped_so.0 (c.stops.answered.1 is));
      left = (λ now. elim (c.stops.left.0 now) [ inl before ↦ inl before | inr f ↦ inr (failed_so.0 f) ], λ either. c.stops.left.1 (elim either [ inl before ↦ inl before | inr f ↦ inr (failed_so.1 f) ]));
    };
    disk = record {
      same = c.disk.same;
      cause = record { never_falls = c.disk.cause.never_falls; rose = λ f. c.disk.cause.rose (failed_so.1 f); only = λ less. failed_so.0 (c.disk.cause.only less) };
      calm = c.disk.calm;
    };
    lasts = c.lasts;
    calls = record { whole = λ well. c.calls.whole (λ f. well (failed_so.0 f)); part = λ f. c.calls.part (failed_so.1 f); still = c.calls.still };
    idle = λ i. c.idle (nothing_so i);
  }

-- ---- of a part

module _ {N M : Type 0} (part : N → M) {v : JournalView M} {old new : N} where
  lasts_within : (appends : List Record) → Lasts v (part old) (part new) appends → Lasts (journal_within part v) old new appends
  lasts_within appends l = record {
    told = l.told;
    any_moment = λ told runs. let a = l.any_moment told runs in record { later = a.later; each = a.each; before = a.before };
    stable = l.stable;
    untouched = λ stopped. let u = l.untouched stopped in record { same_moment = u.same_moment; no_more = u.no_more };
  }

  -- a call on a part is one on the whole
  pub call_within : {appends : List Record} {stopped failed nothing : Type 0} → IsJournalCall v (part old) (part new) appends stopped failed nothing → IsJournalCall (journal_within part v) old new appends stopped failed nothing
  call_within {appends = appends} c = record {
    stops = c.stops;
    disk = record { same = c.disk.same; cause = c.disk.cause; calm = c.disk.calm };
    lasts = lasts_within appends c.lasts;
    calls = record {
      whole = c.calls.whole;
      part = λ f. let p = c.calls.part f in record { before = p.before; failing = p.failing; rest = p.rest; parts = p.parts; fails = p.fails };
      still = c.calls.still;
    };
    idle = λ i. lasts_within [] (c.idle i);
  }

-- ---- nothing is done

-- whatever it might have appended, a call that doesn't access the journal
pub idle_call : {N : Type 0} (v : JournalView N) {stopped failed nothing : Type 0}
    → ((n : N) (file : List ℕ) → v.left_since n (v.moment n) file → v.may_leave n file) → ((n : N) → v.after n [] n)
    → (n : N) (appends : List Record) → IsStable v n → (stopped ↔ (v.stopped n ≡ true)) → (failed → ⊥) → IsJournalCall v n n appends stopped failed nothing
idle_call v only_now none n appends stable answered well = record {
  stops = record { answered = answered; left = (λ now. inl now, λ either. elim either [ inl before ↦ before | inr f ↦ absurd (well f) ]) };
  disk = record { same = refl; cause = record { never_falls = omega arith; rose = λ f. absurd (well f); only = λ less. absurd (omega (arith, less)) }; calm = λ is. (is, refl) };
  lasts = idle_lasts v only_now n appends stable;
  calls = nothing_called v none n appends well;
  idle = λ i. idle_lasts v only_now n [] stable;
}

-- ---- one call, and then another

-- the disk that both used
disk_of_both : {N : Type 0} (v : JournalView N) (old mid new : N) {was failed : Type 0} → (was → ⊥) → KeepsDisk v old mid was → KeepsDisk v mid new failed → KeepsDisk v old new failed
disk_of_both v old mid new well a b =
    let never : v.faults old < v.faults mid → ⊥ = λ lt. well (a.cause.only lt) in
    let still : v.faults mid ≤ v.faults old = omega (arith, never) in
    record {
      same = b.same ∙ a.same;
      cause = record {
        never_falls = omega (arith, a.cause.never_falls, b.cause.never_falls);
        rose = λ e. omega (arith, a.cause.never_falls, b.cause.rose e);
        only = λ lt. b.cause.only (omega (arith, lt, still));
      };
      calm = λ f. let p = a.calm f in let q = b.calm p.0 in (q.0, q.1 ∙ p.1);
    }

-- A call on a journal that isn't stopped appended all of the first records, and its disk didn't fail. Then another call
-- was asked to append the second ones. Both together were asked to append these, and may count as asked to append more.
pub joined_call : {N : Type 0} (v : JournalView N) {was_stopped was_failed was_nothing stopped failed nothing : Type 0} → ((x y z : N) (calls more : List Made) → v.after x calls y → v.after y more z → v.after x (calls ++ more) z)
    → (old mid new : N) (a b grown more : List Record) → (was_failed → ⊥) → v.stopped old ≡ false → v.records mid ≡ v.records old ++ a → v.records new ≡ v.records mid ++ grown
    → IsJournalCall v old mid a was_stopped was_failed was_nothing → IsJournalCall v mid new b stopped failed nothing → IsJournalCall v old new ((a ++ b) ++ more) stopped failed ⊥
joined_call v {stopped = stopped} {failed = failed} join old mid new a b grown more well ran first then one two =
    let runs : v.stopped mid ≡ false = runs_on (v.stopped old) ran one.stops well in
    record {
      stops = subst (λ (before : Bool). StopsBy before (v.stopped new) stopped failed) (runs ∙ sym ran) two.stops;
      disk = disk_of_both v old mid new well one.disk two.disk;
      lasts = lasts_longer old new (a ++ b) more (lasts_joined old mid new a b ran runs first one.lasts two.lasts);
      calls = calls_longer old new (a ++ b) more (calls_joined v join old mid new a b a grown ran first then well one.calls two.calls);
      idle = λ never. absurd never;
    }
