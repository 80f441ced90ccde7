-- A node that a command calls.
use Rattle.std.proofs.Common.{◌≡◌, ◌<◌, ◌≤◌, ℕ, List, false, refl, Result, Err, sym, subst, inl, inr}
use Rattle.std.proofs.Math.Nat.{eq-or-lt_of_le}
use Rattle.std.specs.Prelude.{IsErrOf, IsErr}
use Rattle.depot_base.specs.Faults.{HasCause}
use Rattle.std.specs.Result.{IsErrAnd}
use Rattle.depot_streams.specs.Lasting.{LastsIn}
use Rattle.depot_base.specs.declared.record.Record.{Record}
use Rattle.depot_model.specs.journals.JournalCalls.{CallsDisk, KeepsDisk}
use Rattle.depot_model.specs.journals.Replicas.{IsSameNode, journal_of}
use Rattle.depot_model.specs.declared.node_state.NodeState.{Ghosts}
use Rattle.depot_outside.specs.Told.{Sinks}
use Rattle.depot_session.specs.declared.ending.ScriptEnding.{ScriptEnding}
use Rattle.depot_session.specs.declared.ending.ScriptEnding.TheVariants as ending
use Rattle.depot_session.specs.ScriptTelling.{IsFaultTold}
use Rattle.depot_session.specs.Turns.{HasNoFault, Keeps}
use Rattle.depot_streams.proofs.LastingStreams.{lasts_so}
use Rattle.depot_session.proofs.ToldFaults.{HasCome, NamesFaults, disk_is_fault, memory_is_fault, names_fault, fault_is_err, names_memory}

-- a count didn't rise where nothing failed
pub quiet_unless : (before now : ℕ) (failed : Type 0) → HasCause before now failed → (failed → ⊥) → now ≡ before
quiet_unless before now failed cause not = elim (eq-or-lt_of_le cause.never_falls) [
  | inl same ↦ sym same
  | inr rose ↦ absurd (not (cause.only rose))
]

-- what it keeps of the node, where it made this call
pub keeps_called : {N : Type 0} (g : Ghosts N) (old new : N) (sink : Sinks) (r : Result (Unit {0}) ScriptEnding) (failed : Type 0) → IsSameNode g old new
    → KeepsDisk (journal_of g) old new failed → (appends : List Record) → CallsDisk (journal_of g) old new appends failed → LastsIn g (IsErr r) old new
    → (HasNoFault r → g.stopped new ≡ false) → (HasNoFault r → failed → ⊥) → NamesFaults (g.faults old < g.faults new) sink r → Keeps g old new sink r
keeps_called g old new sink r failed same disk appends calls lasts runs_on settles names = record {
  same = same;
  handle = disk.same;
  lasts = lasts;
  calls = λ calm. calls.whole (settles calm);
  runs_on = runs_on;
  disk_later = disk.cause.never_falls;
  disk_quiet = λ calm. quiet_unless (g.faults old) (g.faults new) failed disk.cause (settles calm);
  disk_failed = λ is. subst (HasCome (g.faults old < g.faults new) sink) is names.came;
  sink_later = names.later;
  sink_failed = λ is. subst (HasCome (g.faults old < g.faults new) sink) is names.came;
  sink_only = names.only;
  no_refusal = λ is. subst (HasCome (g.faults old < g.faults new) sink) is names.came;
}

module _ {N : Type 0} (g : Ghosts N) (old new : N) (sink : Sinks) (failed : Type 0) (same : IsSameNode g old new)
    (disk : KeepsDisk (journal_of g) old new failed) (lasts : LastsIn g failed old new) (appends : List Record) (calls : CallsDisk (journal_of g) old new appends failed) where
  -- where no memory was found after the call
  pub keeps_without_memory : sink.faults_before ≤ sink.faults_after → (r : Result (Unit {0}) ScriptEnding) → IsErrAnd r (λ e. e ≡ ending.Memory) → (sink.faults_before < sink.faults_after → IsErrOf r ending.Sink) → Keeps g old new sink r
  keeps_without_memory later r is only =
      let faulty = memory_is_fault r is in
      keeps_called g old new sink r failed same disk appends calls (lasts_so g failed (IsErr r) old new (λ _. fault_is_err r faulty) lasts) (λ calm. absurd (faulty calm)) (λ calm. absurd (faulty calm)) (names_memory (g.faults old < g.faults new) sink later r is only)

  -- where the disk failed in it, and it was reported, or not
  pub keeps_to_disk : sink.faults_before ≤ sink.faults_after → (line : List ℕ) (e : ScriptEnding) → failed → IsFaultTold sink line ending.Disk e → (sink.faults_before < sink.faults_after → e ≡ ending.Sink) → Keeps g old new sink (Err e)
  keeps_to_disk later line e f told only =
      let faulty = disk_is_fault sink line e told in
      keeps_called g old new sink (Err e) failed same disk appends calls (lasts_so g failed (IsErr {T = Unit {0}} (Err e)) old new (λ _. refl) lasts) (λ calm. absurd (faulty calm)) (λ calm. absurd (faulty calm)) (names_fault (g.faults old < g.faults new) sink later line ending.Disk e (disk.cause.rose f) told only)

  -- where the node runs on
  pub keeps_running : (r : Result (Unit {0}) ScriptEnding) → g.stopped new ≡ false → (failed → ⊥) → NamesFaults (g.faults old < g.faults new) sink r → Keeps g old new sink r
  keeps_running r runs not = keeps_called g old new sink r failed same disk appends calls (lasts_so g failed (IsErr r) old new (λ f. absurd (not f)) lasts) (λ _. runs) (λ _. not)
