-- The outcome of a command that asks the node.
use Rattle.std.proofs.Common.{◌≡◌, ◌<◌, ◌≤◌, ℕ, false, IsTrue, List, [], ◌∷◌, ◌++◌, take, Option, Some, None, Result, Ok, Err, refl, sym, ap, subst, ◌∙◌, inl, inr}
use Rattle.std.specs.Prelude.{IfSome, IsErrOf}
use Rattle.std.specs.Result.{IsErrAnd}
use Rattle.depot_answers.specs.declared.exchange_answers.Closing.{Closing}
use Rattle.depot_answers.specs.declared.exchange_answers.Closing.TheVariants as closing
use Rattle.depot_base.specs.declared.record.Record.{Record}
use Rattle.depot_model.specs.declared.node_state.NodeState.{Ghosts}
use Rattle.depot_model.proofs.of_journals.JournalCallLaws.{runs_on}
use Rattle.depot_outside.specs.Told.{Shelves, Sinks}
use Rattle.depot_requests.specs.Replies.{lines_of_reply}
use Rattle.depot_requests.specs.Requests.{Served, reads_after, served}
use Rattle.depot_requests.specs.declared.reply.Halt.{Halt}
use Rattle.depot_requests.specs.declared.reply.Halt.TheVariants as halt
use Rattle.depot_requests.specs.declared.reply.Reason.TheVariants as reason
use Rattle.depot_requests.specs.declared.reply.Reply.{Reply}
use Rattle.depot_requests.specs.declared.reply.Reply.TheVariants as reply
use Rattle.depot_requests.specs.declared.request.Request.{Request}
use Rattle.depot_script.specs.declared.command.Command.{Command}
use Rattle.depot_script.specs.declared.command.Command.TheVariants as command
use Rattle.depot_service.specs.RequestCalls.{IsRequestCall, Serves}
use Rattle.depot_session.specs.declared.ending.ScriptEnding.{ScriptEnding}
use Rattle.depot_session.specs.declared.ending.ScriptEnding.TheVariants as ending
use Rattle.depot_session.specs.ScriptTelling.{IsFaultTold, IsUnchanged, IsUnwritten, Stores, StoresUnder, Tells, TellsHanded}
use Rattle.depot_session.specs.SessionRuns.{disk_line}
use Rattle.depot_session.specs.Sessions.{Files, Session, Step, StoresAs, answered_step, asked_in, asked_step, asks_for, command_text, ending_of_closing, ending_of_reply, files_after, handed_over, name_stored, names_after, step_by, step_of}
use Rattle.depot_session.specs.Turns.{IsAt, IsRunning, Keeps, LeavesBrought, Turns, step_at}
use Rattle.depot_session.proofs.AskedShelves.{goes_on_anyhow, stored_none, stored_once}
use Rattle.depot_session.proofs.on_disks.Called.{keeps_running, keeps_to_disk, keeps_without_memory}
use Rattle.depot_session.proofs.on_disks.DiskCalls.{appended}
use Rattle.depot_session.proofs.on_disks.LeftJournals.{leaves_after, leaves_front}
use Rattle.depot_session.proofs.StoredFiles.{stored_alike, stored_told}
use Rattle.depot_session.proofs.ToldFaults.{EndsCalmly, NamesFaults, names_stored, names_told}
use Rattle.depot_session.proofs.Turning.{disk_told, told, without_memory}
use Rattle.depot_session.proofs.UnwrittenTexts.{nothing_written}

-- why a feed was closed is no fault
closing_ends_calmly : (o : Option Closing) → EndsCalmly (ending_of_closing o)
closing_ends_calmly None = tt
closing_ends_calmly (Some (closing.IllFormed at)) = tt
closing_ends_calmly (Some (closing.Full what)) = tt

-- a reply ends the run for no fault
pub reply_ends_calmly : (r : Reply) → EndsCalmly (ending_of_reply r)
reply_ends_calmly (reply.Put done) = tt
reply_ends_calmly (reply.Read words) = tt
reply_ends_calmly (reply.Hello hello text) = tt
reply_ends_calmly (reply.Bundle bytes counts more) = tt
reply_ends_calmly (reply.Stream report why) = closing_ends_calmly why
reply_ends_calmly (reply.Settled enough) = tt
reply_ends_calmly (reply.Checkpoint done text) = tt
reply_ends_calmly (reply.Refused (reason.Limit met)) = tt
reply_ends_calmly (reply.Refused (reason.IllFormed at)) = tt
reply_ends_calmly (reply.Refused (reason.OtherRoster given)) = tt
reply_ends_calmly (reply.Refused (reason.Unknown id)) = tt
reply_ends_calmly (reply.Refused (reason.NoValue id)) = tt
reply_ends_calmly (reply.Refused reason.Empty) = tt
reply_ends_calmly (reply.Refused (reason.Many n)) = tt

-- one that hands something out ends nothing
pub goes_on : (r : Reply) (bytes : List ℕ) → handed_over r ≡ Some bytes → ending_of_reply r ≡ None
goes_on (reply.Put done) bytes is = absurd cc
goes_on (reply.Read words) bytes is = absurd cc
goes_on (reply.Hello hello text) bytes is = refl
goes_on (reply.Bundle stream counts more) bytes is = refl
goes_on (reply.Stream report why) bytes is = absurd cc
goes_on (reply.Settled enough) bytes is = absurd cc
goes_on (reply.Checkpoint done text) bytes is = refl
goes_on (reply.Refused why) bytes is = absurd cc

-- the command stores under its name
named_so : (c : Command) (name : List ℕ) → name_stored c ≡ Some name → (other : List ℕ) → name ≡ other → StoresAs c other
named_so (command.Hello file) name is other same = cc
named_so (command.Bundle hello file) name is other same = cc
named_so (command.Export file) name is other same = cc
named_so (command.Checkpoint file) name is other same = cc
named_so other_command name is other same = absurd cc

-- nothing is stored where no name is there, or nothing is handed out
unstored_files : (files : Files) (out o : Option (List ℕ)) → names_after out o ≡ [] → (name : List ℕ) → files_after files out o name ≡ files name
unstored_files files (Some bytes) (Some under) none name = absurd cc
unstored_files files (Some bytes) None none name = refl
unstored_files files None o none name = refl

-- ---- the call

module _ {N : Type 0} (g : Ghosts N) (counts_now : (v : N) (t : ℕ) (file : List ℕ) → t ≤ g.moment v → g.may_leave v file → g.left_since v t file) (old new : N) (r : Request) (done : Result Reply Halt) (running : IsRunning g old)
    (serves : Serves (g.stands old) (g.signature_of old) (g.records old) r done (g.records new)) (call : IsRequestCall g old new r done) (c : Command) (s : Session) (asks : asked_in s c ≡ asks_for r) where
  -- the step of the command
  abbrev step : Step
  step = step_at g old s c

  -- it is that of the request
  step_asked : step ≡ asked_step (g.stands old) (g.signature_of old) s c r
  unfolding step_of
  step_asked = ap (step_by (g.stands old) (g.signature_of old) s c) asks

  module _ (shelf : Shelves) (sink : Sinks) (at : IsAt (g.stands old) (g.records old) shelf.file s) where
    -- it brings what the request brings
    brings : step.session.correct.journal ≡ g.records old ++ call.appends
    brings = ap (λ (x : Step). x.session.correct.journal) step_asked ∙ ap (λ (K : List Record). (served (g.stands old) (g.signature_of old) K r).journal) at.journal ∙ call.brings

    -- Each crash image has a prefix of it
    leaves : LeavesBrought g old new call.appends
    leaves = leaves_front g counts_now old new call.appends running.runs (appended g old new call.appends (take call.lasts.is.count call.lasts.appends) _ _ _ running.runs call.node.journal call.lasts.is.front)

    -- no memory was found
    pub asked_without_memory : IsUnchanged shelf → (result : Result (Unit {0}) ScriptEnding) → IsErrAnd result (λ e. e ≡ ending.Memory) → sink.after ≡ sink.before → Turns g old new c step shelf sink result
    asked_without_memory unchanged result is same = without_memory g old new c step shelf sink call.appends brings leaves (λ name. inl (unchanged name)) result is (nothing_written sink same)

    -- the disk failed, and it was reported, or not
    pub asked_to_disk : IsUnchanged shelf → (e : ScriptEnding) → IsErrOf done halt.Disk → IsFaultTold sink disk_line ending.Disk e → Turns g old new c step shelf sink (Err e)
    asked_to_disk unchanged e failed fault = disk_told g old new c step shelf sink call.appends brings leaves (λ name. inl (unchanged name)) e (call.node.journal.disk.cause.rose failed) fault

    module _ (told_reply : Reply) (replied : done ≡ Ok told_reply) where
      -- the disk didn't fail
      well : IsErrOf done halt.Disk → ⊥
      well failed = let wrong : Ok told_reply ≡ Err halt.Disk = sym replied ∙ failed in cc

      runs : g.stopped new ≡ false
      runs = runs_on (g.stopped old) running.runs call.node.journal.stops well

      -- the outcome of the request
      came : served (g.stands old) (g.signature_of old) (g.records old) r ≡ record { journal = g.records new; reply = told_reply }
      came = subst (λ (x : Result Reply Halt). Serves (g.stands old) (g.signature_of old) (g.records old) r x (g.records new)) replied serves

      -- and with it the step
      abbrev answered : Step
      answered = answered_step s c (reads_after s.correct r) (record { journal = g.records new; reply = told_reply })

      is_answered : step ≡ answered
      is_answered = step_asked ∙ ap (answered_step s c (reads_after s.correct r)) (ap (λ (K : List Record). served (g.stands old) (g.signature_of old) K r) at.journal ∙ came)

      as_answered : (result : Result (Unit {0}) ScriptEnding) → Turns g old new c answered shelf sink result → Turns g old new c step shelf sink result
      as_answered result turns = subst (λ (x : Step). Turns g old new c x shelf sink result) (sym is_answered) turns

      grown : g.records new ≡ g.records old ++ call.appends
      grown = ap (λ (d : Served). d.journal) (sym came) ∙ call.brings

      -- what is handed out, if anything is, was stored and then reported, or not
      abbrev TellsSo : Option (List ℕ) → Option (List ℕ) → Result (Unit {0}) ScriptEnding → Type 0
      TellsSo out name result = TellsHanded shelf sink (command_text c (lines_of_reply told_reply)) (ending_of_reply told_reply) out name result

      told_alone : names_after (handed_over told_reply) (name_stored c) ≡ [] → (result : Result (Unit {0}) ScriptEnding) → IsUnchanged shelf → Tells sink (command_text c (lines_of_reply told_reply)) (ending_of_reply told_reply) result → Turns g old new c step shelf sink result
      told_alone none result unchanged tells =
          as_answered result (told g old new c answered shelf sink call.appends grown leaves (λ name. inl (unchanged name)) runs refl (λ name. unchanged name ∙ at.same_files name ∙ sym (unstored_files s.files (handed_over told_reply) (name_stored c) none name)) (leaves_after g old new _ call.node.journal.lasts) (ending_of_reply told_reply) result refl tells)

      told_stored : (bytes name : List ℕ) → handed_over told_reply ≡ Some bytes → name_stored c ≡ Some name → IsTrue shelf.tells → (result : Result (Unit {0}) ScriptEnding) → Stores shelf sink (command_text c (lines_of_reply told_reply)) name bytes result → Turns g old new c step shelf sink result
      told_stored bytes name is named tells result st =
          as_answered result (stored_told g old new c answered shelf sink call.appends grown leaves name bytes (named_so c name named) (goes_on told_reply bytes is) runs refl (leaves_after g old new _ call.node.journal.lasts) result
          (λ other. (λ i. files_after s.files (is i) (named i) other) ∙ stored_alike s.files shelf.file name bytes bytes (λ n. sym (at.same_files n)) refl other) tells st)

      pub asked_told : IsTrue shelf.tells → (result : Result (Unit {0}) ScriptEnding) → TellsSo (handed_over told_reply) (name_stored c) result → Turns g old new c step shelf sink result
      asked_told tells result = by_parts (handed_over told_reply) (name_stored c) refl refl where
        by_parts : (out name : Option (List ℕ)) → handed_over told_reply ≡ out → name_stored c ≡ name → TellsSo out name result → Turns g old new c step shelf sink result
        by_parts (Some bytes) (Some name) is named t = told_stored bytes name is named tells result t
        by_parts (Some bytes) None is named t = told_alone (λ i. names_after (is i) (named i)) result t.0 t.1
        by_parts None name is named t = told_alone (λ i. names_after (is i) (named i)) result t.0 t.1

      -- what the shelf was asked to store are the names of its step
      pub stores_of_step : (before after : List (List ℕ)) (result : Result (Unit {0}) ScriptEnding) → StoresUnder before after (names_after (handed_over told_reply) (name_stored c)) result → StoresUnder before after step.stores result
      stores_of_step before after result st = subst (λ (names : List (List ℕ)). StoresUnder before after names result) (sym (ap (λ (x : Step). x.stores) is_answered)) st

      -- and none where it ends the run
      pub unstored_by_step : (before after : List (List ℕ)) → IfSome (ending_of_reply told_reply) (λ _. after ≡ before) → IfSome step.ending (λ _. after ≡ before)
      unstored_by_step before after u = subst (λ (o : Option ScriptEnding). IfSome o (λ _. after ≡ before)) (sym (ap (λ (x : Step). x.ending) is_answered)) u

-- ---- the node, whatever came of it

module _ {N : Type 0} (g : Ghosts N) (old new : N) (r : Request) (done : Result Reply Halt) (running : IsRunning g old) (call : IsRequestCall g old new r done) (sink : Sinks) (later : sink.faults_before ≤ sink.faults_after) where
  pub keeps_unasked : (result : Result (Unit {0}) ScriptEnding) → IsErrAnd result (λ e. e ≡ ending.Memory) → (sink.faults_before < sink.faults_after → IsErrOf result ending.Sink) → Keeps g old new sink result
  keeps_unasked = keeps_without_memory g old new sink (IsErrOf done halt.Disk) call.node.same call.node.journal.disk call.lasts call.appends call.node.journal.calls later

  pub keeps_cut : (e : ScriptEnding) → IsErrOf done halt.Disk → IsFaultTold sink disk_line ending.Disk e → (sink.faults_before < sink.faults_after → e ≡ ending.Sink) → Keeps g old new sink (Err e)
  keeps_cut e = keeps_to_disk g old new sink (IsErrOf done halt.Disk) call.node.same call.node.journal.disk call.lasts call.appends call.node.journal.calls later disk_line e

  module _ (told_reply : Reply) (replied : done ≡ Ok told_reply) where
    keeps_replied : (result : Result (Unit {0}) ScriptEnding) → NamesFaults (g.faults old < g.faults new) sink result → Keeps g old new sink result
    keeps_replied result names =
        let not : IsErrOf done halt.Disk → ⊥ = λ failed. (let wrong : Ok told_reply ≡ Err halt.Disk = sym replied ∙ failed in cc) in
        keeps_running g old new sink (IsErrOf done halt.Disk) call.node.same call.node.journal.disk call.lasts call.appends call.node.journal.calls result (runs_on (g.stopped old) running.runs call.node.journal.stops not) not names

    pub keeps_told : (shelf : Shelves) (text : List ℕ) (name : Option (List ℕ)) (result : Result (Unit {0}) ScriptEnding) → TellsHanded shelf sink text (ending_of_reply told_reply) (handed_over told_reply) name result → (sink.faults_before < sink.faults_after → IsErrOf result ending.Sink) → Keeps g old new sink result
    keeps_told shelf text name result tells only = keeps_replied result (by_parts (handed_over told_reply) name tells) where
      by_parts : (out o : Option (List ℕ)) → TellsHanded shelf sink text (ending_of_reply told_reply) out o result → NamesFaults (g.faults old < g.faults new) sink result
      by_parts (Some bytes) (Some under) t = names_stored _ sink later shelf text under bytes result t only
      by_parts (Some bytes) None t = names_told _ sink later text (ending_of_reply told_reply) result (reply_ends_calmly told_reply) t.1 only
      by_parts None o t = names_told _ sink later text (ending_of_reply told_reply) result (reply_ends_calmly told_reply) t.1 only

-- ---- telling

module _ (shelf : Shelves) (sink : Sinks) (text : List ℕ) (ends : Option ScriptEnding) where
  -- no memory was found for what is printed of a reply
  pub handed_without_memory : (out o : Option (List ℕ)) (result : Result (Unit {0}) ScriptEnding) → IsUnchanged shelf → IsErrAnd result (λ e. e ≡ ending.Memory) → sink.after ≡ sink.before → TellsHanded shelf sink text ends out o result
  handed_without_memory out o (Ok done) unchanged is same = absurd is
  handed_without_memory (Some bytes) (Some name) (Err e) unchanged is same = (λ other not. unchanged other, inr (inl (unchanged, (is, nothing_written sink same))))
  handed_without_memory (Some bytes) None (Err e) unchanged is same = (unchanged, inr (subst (IsUnwritten sink text) (sym is) (nothing_written sink same)))
  handed_without_memory None o (Err e) unchanged is same = (unchanged, inr (subst (IsUnwritten sink text) (sym is) (nothing_written sink same)))

  -- what is handed out was stored and reported
  pub handed_told : (name bytes : List ℕ) (out o : Option (List ℕ)) (result : Result (Unit {0}) ScriptEnding) → out ≡ Some bytes → o ≡ Some name → Stores shelf sink text name bytes result → TellsHanded shelf sink text ends out o result
  handed_told name bytes out o result is named st = subst (λ (x : Option (List ℕ)). TellsHanded shelf sink text ends x o result) (sym is) (subst (λ (x : Option (List ℕ)). TellsHanded shelf sink text ends (Some bytes) x result) (sym named) st)

  -- nothing is to be stored, and it was reported alone
  pub only_told : (out o : Option (List ℕ)) (result : Result (Unit {0}) ScriptEnding) → names_after out o ≡ [] → IsUnchanged shelf → Tells sink text ends result → TellsHanded shelf sink text ends out o result
  only_told (Some bytes) (Some name) result none unchanged tells = absurd cc
  only_told (Some bytes) None result none unchanged tells = (unchanged, tells)
  only_told None o result none unchanged tells = (unchanged, tells)

-- it was asked to store what is handed out, or nothing
pub stored_if_handed : (old new : List (List ℕ)) (name bytes : List ℕ) (out o : Option (List ℕ)) (result : Result (Unit {0}) ScriptEnding) → out ≡ Some bytes → o ≡ Some name → new ≡ old ++ name ∷ [] → StoresUnder old new (names_after out o) result
stored_if_handed old new name bytes out o result is named once = subst (λ (names : List (List ℕ)). StoresUnder old new names result) (λ i. names_after (sym is i) (sym named i)) (stored_once old new (name ∷ []) result once)

pub unstored_if_not : (old new : List (List ℕ)) (out o : Option (List ℕ)) (result : Result (Unit {0}) ScriptEnding) → names_after out o ≡ [] → new ≡ old → StoresUnder old new (names_after out o) result
unstored_if_not old new out o result none same = subst (λ (names : List (List ℕ)). StoresUnder old new names result) (sym none) (stored_none old new result same)

-- a reply that hands something out ends nothing
pub ends_nothing : (r : Reply) (P : Type 0) (bytes : List ℕ) → handed_over r ≡ Some bytes → IfSome (ending_of_reply r) (λ _. P)
ends_nothing r P bytes is = goes_on_anyhow P (ending_of_reply r) (goes_on r bytes is)
