-- A node that a command doesn't call.
use Rattle.std.proofs.Common.{◌≡◌, ◌<◌, ℕ, Bool, IsTrue, List, [], Option, None, Result, Err, refl, sym, ap, subst, ◌∙◌, arith, inl, inr}
use Rattle.std.specs.Prelude.{IsErr}
use Rattle.std.specs.Result.{IsErrAnd}
use Rattle.depot_base.specs.declared.record.Record.{Record}
use Rattle.depot_streams.proofs.LastingStreams.{nothing_in}
use Rattle.depot_model.specs.journals.Lawful.{IsLawful}
use Rattle.depot_model.specs.journals.Stops.{LeavesAll}
use Rattle.depot_model.specs.declared.node_state.NodeState.{Ghosts}
use Rattle.depot_model.proofs.of_journals.FeedGrowth.{IsGrown}
use Rattle.depot_outside.specs.Told.{Shelves, Sinks}
use Rattle.depot_script.specs.declared.command.Command.{Command}
use Rattle.depot_session.specs.declared.ending.ScriptEnding.{ScriptEnding}
use Rattle.depot_session.specs.declared.ending.ScriptEnding.TheVariants as ending
use Rattle.depot_session.specs.Sessions.{Names, Session, Step, StoresAs, absent, shelf_line, step_of, stored}
use Rattle.depot_session.specs.ScriptTelling.{IsFaultTold, IsMissing, IsUnchanged, Stores, Tells}
use Rattle.depot_session.specs.Turns.{IsAt, IsRunning, Keeps, LeavesBrought, Turns}
use Rattle.depot_session.proofs.on_disks.DiskCalls.{called_none}
use Rattle.depot_session.proofs.on_disks.LeftJournals.{all_there, front_of_none}
use Rattle.depot_session.proofs.StepGrowth.{step_grows}
use Rattle.depot_session.proofs.StoredFiles.{stored_told}
use Rattle.depot_session.proofs.ToldFaults.{HasCome, NamesFaults}
use Rattle.depot_session.proofs.Turning.{absent_told, shelf_told, told, without_memory}
use Rattle.depot_session.proofs.UnwrittenTexts.{nothing_written}

module _ {N : Type 0} (g : Ghosts N) (v : N) (running : IsRunning g v) where
  -- Each crash image has all its records
  pub leaves_all : IsTrue (g.tells v) → LeavesAll (g.records v) (g.stopped v) (g.may_leave v)
  leaves_all t = subst (λ (b : Bool). LeavesAll (g.records v) b (g.may_leave v)) (sym running.runs) (running.stable t)

  -- the command keeps it
  pub keeps_uncalled : ((w : N) (file : List ℕ) → g.left_since w (g.moment w) file → g.may_leave w file) → ((w : N) → g.after w [] w) → IsLawful (g.stands v) (g.records v) → (sink : Sinks) (r : Result (Unit {0}) ScriptEnding) → NamesFaults (g.faults v < g.faults v) sink r → Keeps g v v sink r
  keeps_uncalled only_now none lawful sink r names = record {
    same = record { stands = refl; key = refl; signs = refl };
    handle = refl;
    lasts = nothing_in g only_now (IsErr r) v lawful leaves_all;
    calls = λ _. called_none g none v;
    runs_on = λ _. running.runs;
    disk_later = omega arith;
    disk_quiet = λ _. refl;
    disk_failed = λ is. subst (HasCome (g.faults v < g.faults v) sink) is names.came;
    sink_later = names.later;
    sink_failed = λ is. subst (HasCome (g.faults v < g.faults v) sink) is names.came;
    sink_only = names.only;
    no_refusal = λ is. subst (HasCome (g.faults v < g.faults v) sink) is names.came;
  }

  module _ (s : Session) (c : Command) (shelf : Shelves) (sink : Sinks) (at : IsAt (g.stands v) (g.records v) shelf.file s) where
    -- the step of the command
    abbrev step : Step
    step = step_of (g.stands v) (g.signature_of v) s c

    -- it brings these records
    brings : IsGrown (g.records v) step.session.correct.journal
    brings = subst (λ (J : List Record). IsGrown J step.session.correct.journal) at.journal (step_grows (g.stands v) (g.signature_of v) s c)

    -- a crash image has none of them
    leaves : LeavesBrought g v v brings.more
    leaves = record { after = λ t image left. front_of_none (g.records v) brings.more image (all_there (g.records v) image (running.stable t image left)); moments = inl refl }

    -- bytes were stored and its lines reported, or not
    pub uncalled_stored : (name bytes : List ℕ) → ((other : List ℕ) → name ≡ other → StoresAs c other) → step.ending ≡ None → step.session.correct.journal ≡ g.records v → (r : Result (Unit {0}) ScriptEnding) → ((other : List ℕ) → step.session.files other ≡ stored shelf.file name bytes other)
        → IsTrue shelf.tells → Stores shelf sink step.text name bytes r → Turns g v v c step shelf sink r
    uncalled_stored name bytes own goes_on journal = stored_told g v v c step shelf sink brings.more brings.is leaves name bytes own goes_on running.runs (sym journal) leaves_all

    module _ (unchanged : IsUnchanged shelf) where
      -- no memory was found
      pub uncalled_without_memory : (r : Result (Unit {0}) ScriptEnding) → IsErrAnd r (λ e. e ≡ ending.Memory) → sink.after ≡ sink.before → Turns g v v c step shelf sink r
      uncalled_without_memory r is same = without_memory g v v c step shelf sink brings.more brings.is leaves (λ name. inl (unchanged name)) r is (nothing_written sink same)

      -- its lines were reported, or not
      pub uncalled_told : step.session.correct.journal ≡ g.records v → ((name : List ℕ) → step.session.files name ≡ s.files name) → (ends : Option ScriptEnding) (r : Result (Unit {0}) ScriptEnding) → step.ending ≡ ends → Tells sink step.text ends r → Turns g v v c step shelf sink r
      uncalled_told journal files =
          told g v v c step shelf sink brings.more brings.is leaves (λ name. inl (unchanged name)) running.runs (sym journal) (λ name. unchanged name ∙ at.same_files name ∙ sym (files name)) leaves_all

      -- a file that is to be loaded can't be had
      pub uncalled_without_file : (name : List ℕ) (e : ScriptEnding) → Names c name → (s.files name ≡ None → step ≡ absent s name) → IsTrue shelf.tells → IsMissing shelf name → IsFaultTold sink (shelf_line name) ending.Shelf e → Turns g v v c step shelf sink (Err e)
      uncalled_without_file name e named is tells (inl failed) fault = shelf_told g v v c step shelf sink brings.more brings.is leaves (λ other. inl (unchanged other)) name e named failed fault
      uncalled_without_file name e named is tells (inr none) fault =
          let gone : step ≡ absent s name = is (sym (at.same_files name) ∙ none tells) in
          absent_told g v v c step shelf sink brings.more brings.is leaves (λ other. inl (unchanged other)) running.runs (sym at.journal ∙ ap (λ (x : Step). x.session.correct.journal) (sym gone))
          (λ other. unchanged other ∙ at.same_files other ∙ ap (λ (x : Step). x.session.files other) (sym gone)) leaves_all e (ap (λ (x : Step). x.ending) gone)
          (subst (λ (x : List ℕ). IsFaultTold sink x ending.Shelf e) (ap (λ (x : Step). x.text) (sym gone)) fault)
