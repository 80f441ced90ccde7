-- What calls on the node do on its disk.
use Rattle.std.proofs.Common.{◌≡◌, ◌<◌, ℕ, true, false, List, [], ◌++◌, append_assoc, sym, ap, subst, ◌∙◌, arith, inr, inl}
use Rattle.std.proofs.lemmas.List.{append-nil, append_cancel_left}
use Rattle.depot_base.specs.Calls.{Call, Made, made}
use Rattle.depot_base.specs.declared.record.Record.{Record}
use Rattle.depot_base.proofs.CallLaws.{made_later}
use Rattle.depot_model.proofs.of_journals.CallsOnDisk.{calls_behind, calls_joined, calls_longer, nothing_called}
use Rattle.depot_model.proofs.of_journals.StopLaws.{idle_lasts, lasts_joined, lasts_longer}
use Rattle.depot_model.specs.journals.JournalCalls.{IsJournalCall, IsStable, Lasts}
use Rattle.depot_model.specs.journals.Replicas.{journal_of}
use Rattle.depot_model.specs.journals.Stops.{calls_to_record}
use Rattle.depot_model.specs.declared.node_state.NodeState.{Ghosts}
use Rattle.depot_session.specs.Turns.{AppendsBrought, HasCalled}

-- a test isn't both
pub untrue : true ≡ false → ⊥
untrue e = cc

-- ---- a node that isn't called

-- it made no call
pub called_none : {N : Type 0} (g : Ghosts N) → ((n : N) → g.after n [] n) → (v : N) → HasCalled g v v
called_none g none v = (nothing_called (journal_of g) {failed = ⊥} none v [] (λ never. never)).whole (λ never. never)

-- and none of these records were appended
pub appended_none : {N : Type 0} (g : Ghosts N) → ((n : N) (file : List ℕ) → g.left_since n (g.moment n) file → g.may_leave n file) → ((n : N) → g.after n [] n)
    → (v : N) (more : List Record) → g.stopped v ≡ false → IsStable (journal_of g) v → AppendsBrought g v v more
appended_none g only_now none v more runs stable = record {
  lasts = idle_lasts (journal_of g) only_now v more stable;
  added = [];
  adds = sym (append-nil (g.records v));
  calls = nothing_called (journal_of g) none v more (λ rose. omega (arith, rose));
  stops = (λ is. absurd (untrue (sym is ∙ runs)), λ rose. absurd (omega (arith, rose)));
}

-- ---- one call

-- a call on a running node
pub appended : {N : Type 0} (g : Ghosts N) (old new : N) (more added : List Record) (stopped failed nothing : Type 0) → g.stopped old ≡ false → IsJournalCall (journal_of g) old new more stopped failed nothing → g.records new ≡ g.records old ++ added
    → AppendsBrought g old new more
appended g old new more added stopped failed nothing runs call adds = record {
  lasts = call.lasts;
  added = added;
  adds = adds;
  calls = record { whole = λ calm. call.calls.whole (λ fault. calm (call.disk.cause.rose fault)); part = λ rose. call.calls.part (call.disk.cause.only rose); still = call.calls.still };
  stops = (
    λ is. elim (call.stops.left.0 is) [
      | inl was ↦ absurd (untrue (sym was ∙ runs))
      | inr fault ↦ call.disk.cause.rose fault
    ],
    λ rose. call.stops.left.1 (inr (call.disk.cause.only rose)),
  );
}

-- more records were to be appended
pub appended_longer : {N : Type 0} (g : Ghosts N) (old new : N) (a b : List Record) → AppendsBrought g old new a → AppendsBrought g old new (a ++ b)
appended_longer g old new a b one = record {
  lasts = lasts_longer {v = journal_of g} old new a b one.lasts;
  added = one.added;
  adds = one.adds;
  calls = calls_longer {v = journal_of g} old new a b one.calls;
  stops = one.stops;
}

-- calls on whose disk none failed
pub appended_well : {N : Type 0} (g : Ghosts N) (old new : N) (a : List Record) → g.stopped old ≡ false → g.stopped new ≡ false → g.faults new ≡ g.faults old → g.records new ≡ g.records old ++ a → Lasts (journal_of g) old new a → HasCalled g old new → AppendsBrought g old new a
appended_well g old new a ran runs quiet grown lasts called = record {
  lasts = lasts;
  added = a;
  adds = grown;
  calls = record { whole = λ _. called; part = λ rose. absurd (omega (arith, quiet, rose)); still = λ is. absurd (untrue (sym is ∙ ran)) };
  stops = (λ is. absurd (untrue (sym is ∙ runs)), λ rose. absurd (omega (arith, quiet, rose)));
}

-- ---- some calls, and then others

module _ {N : Type 0} (g : Ghosts N) (join : (x y z : N) (calls more : List Made) → g.after x calls y → g.after y more z → g.after x (calls ++ more) z) (first mid new : N) where
  -- the calls that append what both brought
  pub called_joined : (a b : List Record) → g.records mid ≡ g.records first ++ a → g.records new ≡ g.records mid ++ b → HasCalled g first mid → HasCalled g mid new → HasCalled g first new
  called_joined a b grown more one two grown_by is =
      let J : List Record = g.records first in
      let split : calls_to_record J a ++ calls_to_record (g.records mid) b ≡ calls_to_record J (a ++ b) = ap (λ (K : List Record). calls_to_record J a ++ calls_to_record K b) grown ∙ sym (calls_behind J a b) in
      let all : g.records new ≡ J ++ (a ++ b) = more ∙ ap (λ (K : List Record). K ++ b) grown ∙ append_assoc J a b in
      subst (λ (adds : List Record). g.after first (made (calls_to_record J adds)) new) (append_cancel_left J (a ++ b) grown_by (sym all ∙ is))
      (subst (λ (calls : List Call). g.after first (made calls) new) split (made_later g.after join first mid new _ _ (one a grown) (two b more)))

  -- on the disk of the first none failed
  pub appended_joined : (a b : List Record) → g.stopped first ≡ false → g.stopped mid ≡ false → g.faults mid ≡ g.faults first → g.records mid ≡ g.records first ++ a → AppendsBrought g first mid a → AppendsBrought g mid new b → AppendsBrought g first new (a ++ b)
  appended_joined a b ran runs quiet grown one two =
      let joined = calls_joined (journal_of g) join first mid new a b a two.added ran grown two.adds (λ (rose : g.faults first < g.faults mid). omega (arith, quiet, rose)) one.calls two.calls in
      record {
        lasts = lasts_joined {v = journal_of g} first mid new a b ran runs grown one.lasts two.lasts;
        added = a ++ two.added;
        adds = two.adds ∙ ap (λ (K : List Record). K ++ two.added) grown ∙ append_assoc (g.records first) a two.added;
        calls = record { whole = λ calm. joined.whole (λ rose. calm (omega (arith, quiet, rose))); part = λ rose. joined.part (omega (arith, quiet, rose)); still = joined.still };
        stops = (λ is. (let rose = two.stops.0 is in omega (arith, quiet, rose)), λ rose. two.stops.1 (omega (arith, quiet, rose)));
      }
