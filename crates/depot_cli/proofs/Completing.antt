-- The outcome of a run where nothing fails.
use Rattle.std.proofs.Common.{◌≡◌, ℕ, ◌⊎◌, List, Option, Some, None, refl, ap, ◌∙◌, subst, inl, inr, arith}
use Rattle.depot_base.specs.Format.{whole}
use Rattle.depot_base.specs.declared.update.Update.{Update}
use Rattle.depot_base.specs.declared.key.RosterEntry.{RosterEntry}
use Rattle.depot_model.specs.texts.Log.{first_orphan}
use Rattle.depot_model.proofs.of_texts.LogLaws.{one_log, log_has_no_fault}
use Rattle.depot_schedule.specs.Schedules.{schedule_of}
use Rattle.depot_schedule.proofs.ScheduleLaws.{schedule_again}
pub use Rattle.depot_cli.proofs.ThereFiles.{not_lacking, one_file, no_roster}
use Rattle.depot_cli.proofs.AuditCompletes.{audit_completes}
use Rattle.depot_cli.specs.declared.status.Status.{Status}
use Rattle.depot_cli.specs.declared.status.Status.TheVariants.{Done, Input, Shelf, Memory, NoProof, NotLawful}
use Rattle.depot_cli.specs.declared.invocation.Invocation.{Invocation}
use Rattle.depot_cli.specs.declared.invocation.Invocation.TheVariants as asked
use Rattle.depot_outside.specs.Told.{Shelves, Loads, Sinks, HasFile}
use Rattle.depot_cli.specs.Runs.{IsNoLog, IsOrphaned, Scans, PrintsKey, HasRoster, JudgesProof, Judges, IsNoSchedule, PrintsLoad, Replays, AnswersCommand, Begins, Ends, IsWell, IsWholeLog, IsScheduleText, CommandCompletes}

no_log : (shelf : Shelves) (name text : List ℕ) → HasFile shelf name IsWholeLog → HasFile shelf name (IsNoLog name text) → ⊥
no_log shelf name text whole broken =
    let same = one_file shelf name whole.bytes broken.bytes whole.there broken.there in
    let log = subst IsWholeLog same whole.holds in
    log_has_no_fault broken.bytes log.updates broken.holds.at log.log broken.holds.fault

no_orphan : (shelf : Shelves) (name text : List ℕ) → HasFile shelf name IsWholeLog → HasFile shelf name (IsOrphaned text) → ⊥
no_orphan shelf name text whole broken =
    let same = one_file shelf name whole.bytes broken.bytes whole.there broken.there in
    let log = subst IsWholeLog same whole.holds in
    let one = one_log broken.bytes log.updates broken.holds.orphan.updates log.log broken.holds.orphan.log in
    let moved : first_orphan broken.holds.orphan.updates ≡ None = subst (λ (us : List Update). first_orphan us ≡ None) one log.whole in
    let found = broken.holds.orphan.first in
    cc

scan_completes : (shelf : Shelves) (sink : Sinks) (log key : List ℕ) (status : Status) (text : List ℕ) → IsWell shelf sink → Scans shelf log key status text → HasFile shelf log IsWholeLog → (status ≡ Done) ⊎ (status ≡ Memory)
scan_completes shelf sink log key Done text well answer whole = inl refl
scan_completes shelf sink log key Input text well answer whole = absurd (no_log shelf log text whole (answer well.tells))
scan_completes shelf sink log key NotLawful text well answer whole = absurd (no_orphan shelf log text whole (answer well.tells))
scan_completes shelf sink log key Shelf text well answer whole = absurd (not_lacking shelf sink log whole.bytes well whole.there answer.0)
scan_completes shelf sink log key status text well answer whole = absurd answer

key_completes : (seed : List ℕ) (height : ℕ) (status : Status) (text : List ℕ) → PrintsKey seed height status text → (status ≡ Done) ⊎ (status ≡ Memory)
key_completes seed height Done text answer = inl refl
key_completes seed height status text answer = absurd answer

proof_completes : (shelf : Shelves) (sink : Sinks) (listed : List RosterEntry) (proof : List ℕ) (status : Status) (text : List ℕ) → IsWell shelf sink → JudgesProof shelf listed proof status text → HasFile shelf proof (λ bytes. Unit {0}) → (status ≡ Done) ⊎ ((status ≡ NoProof) ⊎ (status ≡ Memory))
proof_completes shelf sink listed proof Done text well answer there = inl refl
proof_completes shelf sink listed proof NoProof text well answer there = inr (inl refl)
proof_completes shelf sink listed proof Shelf text well answer there = absurd (not_lacking shelf sink proof there.bytes well there.there answer.0)
proof_completes shelf sink listed proof status text well answer there = absurd answer

judge_completes : (shelf : Shelves) (loads : Loads) (sink : Sinks) (name proof : List ℕ) (status : Status) (text : List ℕ) → IsWell shelf sink → Judges shelf loads name proof status text → HasRoster shelf name → HasFile shelf proof (λ bytes. Unit {0}) → (status ≡ Done) ⊎ ((status ≡ NoProof) ⊎ (status ≡ Memory))
judge_completes shelf loads sink name proof status text well (inl (loaded, (is, (lacks, line)))) good there = absurd (not_lacking shelf sink name good.bytes well good.there lacks)
judge_completes shelf loads sink name proof status text well (inr (inl (loaded, (is, broken)))) good there = absurd (no_roster shelf name text good (broken well.tells))
judge_completes shelf loads sink name proof status text well (inr (inr (loaded, (listed, (there_too, judged))))) good there = proof_completes shelf sink listed proof status text well judged there

-- a schedule's text has no faulty line
no_schedule : (shelf : Shelves) (name text : List ℕ) → HasFile shelf name IsScheduleText → HasFile shelf name (IsNoSchedule name text) → ⊥
no_schedule shelf name text good broken =
    let same = one_file shelf name good.bytes broken.bytes good.there broken.there in
    let is = subst IsScheduleText same good.holds in
    let read = ap schedule_of is.1.is ∙ schedule_again is.0 is.1.has in
    let first = broken.holds.first in
    cc

replay_completes : (shelf : Shelves) (sink : Sinks) (name : List ℕ) (status : Status) (text : List ℕ) → IsWell shelf sink → Replays shelf name status text → HasFile shelf name IsScheduleText → (status ≡ Done) ⊎ (status ≡ Memory)
replay_completes shelf sink name Done text well answer good = inl refl
replay_completes shelf sink name Input text well answer good = absurd (no_schedule shelf name text good (answer well.tells))
replay_completes shelf sink name Shelf text well answer good = absurd (not_lacking shelf sink name good.bytes well good.there answer.0)
replay_completes shelf sink name status text well answer good = absurd answer

load_completes : (number : ℕ) (status : Status) (text : List ℕ) → PrintsLoad number status text → (status ≡ Done) ⊎ (status ≡ Memory)
load_completes number Done text answer = inl refl
load_completes number status text answer = absurd answer

-- what a command answers is its outcome
completes : (shelf : Shelves) (loads : Loads) (sink : Sinks) (command : Option Invocation) (status : Status) (text : List ℕ) → AnswersCommand shelf loads command status text → IsWell shelf sink → CommandCompletes shelf command status
completes shelf loads sink None status text (loaded, (is, line)) well = inl is
completes shelf loads sink (Some (asked.Scan log key)) status text (loaded, answer) well = scan_completes shelf sink log key status text well answer
completes shelf loads sink (Some (asked.Key seed height)) status text (loaded, answer) well = key_completes seed height status text answer
completes shelf loads sink (Some (asked.Judge name proof)) status text answer well = judge_completes shelf loads sink name proof status text well answer
completes shelf loads sink (Some (asked.Load number)) status text (loaded, answer) well = load_completes number status text answer
completes shelf loads sink (Some (asked.Node n)) status text answer well = tt
completes shelf loads sink (Some (asked.Audit name traces)) status text answer well = audit_completes shelf loads sink name traces status text well answer
completes shelf loads sink (Some (asked.Replay name)) status text (loaded, answer) well = replay_completes shelf sink name status text well answer

-- memory may run out in place of each
without_memory : (shelf : Shelves) (command : Option Invocation) (status : Status) → status ≡ Memory → CommandCompletes shelf command status
without_memory shelf None status is = inr is
without_memory shelf (Some (asked.Scan log key)) status is = λ there. inr is
without_memory shelf (Some (asked.Key seed height)) status is = inr is
without_memory shelf (Some (asked.Judge name proof)) status is = λ good there. inr (inr is)
without_memory shelf (Some (asked.Replay name)) status is = λ good. inr is
without_memory shelf (Some (asked.Load number)) status is = inr is
without_memory shelf (Some (asked.Node n)) status is = tt
without_memory shelf (Some (asked.Audit name traces)) status is = λ listed ts good there of. inr (inr is)

-- a run that ends as its command answers completes it, where nothing failed
pub ends_complete : (shelf : Shelves) (loads : Loads) (sink : Sinks) (command : Option Invocation) (status : Status) → Ends (AnswersCommand shelf loads command) (Begins shelf loads command) sink status → IsWell shelf sink → CommandCompletes shelf command status
ends_complete shelf loads sink command status (inl e) well = completes shelf loads sink command status e.text e.answered well
ends_complete shelf loads sink command status (inr (inl e)) well = without_memory shelf command status e.is
ends_complete shelf loads sink command status (inr (inr e)) well = absurd (omega (arith, e.rose, well.sink_is_well))
