-- The run of a server: how it starts, what it answers, and its crash images.
use Rattle.std.specs.Prelude.{◌≡◌, ◌≢◌, ◌<◌, ◌≤◌, ◌⊎◌, ℕ, List, [], ◌++◌, length, take, true, IsTrue, Some, Result, Ok, Err}
use Rattle.std.specs.List.{flat_map}
use Rattle.depot_base.specs.declared.key.PublicKey.{PublicKey}
use Rattle.depot_base.specs.declared.record.Record.{Record}
use Rattle.depot_model.specs.checks.Checks.{Setting}
use Rattle.depot_model.specs.journals.Lawful.{IsLawful}
use Rattle.depot_model.specs.texts.Roster.{key_of}
use Rattle.depot_model.specs.journals.Stops.{HasFront, HasRecords}
use Rattle.depot_model.specs.declared.signature.Signer as signer_of
use Rattle.depot_node.specs.Starting.{IsNotStarted, IsStartedFrom, LeavesFile, birth_after, started}
use Rattle.depot_node.specs.declared.start_error.StartError.{StartError}
use Rattle.depot_node.specs.declared.start_error.StartError.TheVariants as refused
use Rattle.depot_outside.specs.Told.{Disks, Sinks, Wrote, WroteFront}
use Rattle.depot_session.specs.SessionRuns.{GrowsTo, HasFailed, Settles}
use Rattle.depot_source.specs.Inputs.{Inputs, inputs}
use Rattle.depot_source.specs.Messages.{Message, text_of_message}
use Rattle.depot_source.specs.declared.source.Source as source_of
use Rattle.depot_session.specs.Answering.{ServesBody, came_of, serves_at}
use Rattle.depot_session.specs.FirstMessages.{refused_text, started_text}
use Rattle.depot_session.specs.Serving.{AreAsking, BreaksOff, bodies_of, faults_risen, place_from}
use Rattle.depot_session.specs.declared.server_ending.ServeEnding.{ServeEnding}
use Rattle.depot_session.specs.declared.server_ending.ServeEnding.TheVariants as serve
use Rattle.depot_session.specs.declared.server_ending.ServerEnding.{ServerEnding}
use Rattle.depot_session.specs.declared.server_ending.ServerEnding.TheVariants as ending

-- ---- endings

-- how the run ends whose start is refused
abbrev pub ending_of_start : StartError → ServerEnding
ending_of_start refused.Memory = ending.Memory
ending_of_start refused.Disk = ending.Disk
ending_of_start (refused.Damaged at) = ending.NotLawful
ending_of_start (refused.NotLawful place fault) = ending.NotLawful
ending_of_start other = ending.Identity

-- how the run ends whose requests were served
abbrev pub ending_of_served : Result (Unit {0}) ServeEnding → ServerEnding
ending_of_served (Ok done) = ending.Done
ending_of_served (Err serve.Memory) = ending.Memory
ending_of_served (Err serve.Source) = ending.Source
ending_of_served (Err serve.Disk) = ending.Disk
ending_of_served (Err serve.Sink) = ending.Sink
ending_of_served (Err (serve.Input at within)) = ending.Input at within

-- its input ended, or the source failed, or what came is no request: no run whose node wasn't started ends in this way
abbrev pub EndsByInput : ServerEnding → Type 0
EndsByInput ending.Done = Unit {0}
EndsByInput ending.Source = Unit {0}
EndsByInput (ending.Input at within) = Unit {0}
EndsByInput other = ⊥

-- a run ends in this way if its node, when it was started, ran on: the sink may have failed, too
abbrev pub EndsRunning : ServerEnding → Type 0
EndsRunning ending.Sink = Unit {0}
EndsRunning other = EndsByInput other

-- ---- the first message

-- A message wasn't written, or only in part: no memory was found, or the sink failed.
abbrev pub IsUnsaid : Sinks → List ℕ → ServerEnding → Type 0
IsUnsaid sink text ending.Memory = Wrote sink []
IsUnsaid sink text ending.Sink = (sink.faults_before < sink.faults_after) × WroteFront sink text
IsUnsaid sink text other = ⊥

-- A message was written, or it wasn't.
abbrev pub Says : Sinks → List ℕ → Result (Unit {0}) ServerEnding → Type 0
Says sink text (Ok done) = Wrote sink text
Says sink text (Err e) = IsUnsaid sink text e

-- The message why a node isn't started was written, and the run ends by that; or it wasn't written in full.
abbrev pub IsRefusalSaid : Sinks → StartError → ServerEnding → Type 0
IsRefusalSaid sink error ends = ((ends ≡ ending_of_start error) × Wrote sink (refused_text error)) ⊎ IsUnsaid sink (refused_text error) ends

-- ---- crash images

-- every crash image after the run has this journal, and so has the file
pub record LeavesJournal (disk : Disks) (J : List Record) : Type 0 where
  pub leaves : (image : List ℕ) → disk.may_leave_after image → HasRecords J image
  pub reads : HasRecords J disk.file_after

-- that is so where the disk's bytes are visible
abbrev pub StandsOn : Disks → List Record → Type 0
StandsOn disk J = IsTrue disk.tells → LeavesJournal disk J

-- The run extends the records of the file to those of this journal: each crash image was possible before, or has the
-- records of the file and a prefix of what is brought.
abbrev pub GrowsFromFile : Setting → Disks → List Record → Type 0
GrowsFromFile here disk then = IsTrue disk.tells → (J : List Record) → IsLawful here J → HasRecords J disk.file → GrowsTo J then disk

-- Since this moment of the run, and after it, each crash image has these records and a prefix of those; so has the
-- file.
pub record IsLeftSince (disk : Disks) (moment : ℕ) (J more : List Record) : Type 0 where
  pub began : disk.moment_before ≤ moment
  pub past : moment ≤ disk.moment_after
  pub left : (image : List ℕ) → disk.left_since moment image → HasFront J more image
  pub leaves : (image : List ℕ) → disk.may_leave_after image → HasFront J more image
  pub reads : HasFront J more disk.file_after

-- From some moment of the run on, each crash image has these records and a prefix of what later requests bring.
pub record IsLeftOn (disk : Disks) (J then : List Record) : Type 0 where
  pub moment : ℕ
  pub more : List Record
  pub is : then ≡ J ++ more
  pub left : IsLeftSince disk moment J more

-- what the first requests brought, for any number of them, is kept from some moment on, if the disk's bytes are visible
abbrev pub AllAreLeft : ServesBody → List Record → Disks → List Message → List Record → Type 0
AllAreLeft f J disk done then = IsTrue disk.tells → (k : ℕ) → k ≤ length done → IsLeftOn disk (came_of f J (bodies_of (take k done))).journal then

-- ---- the run of a node that was started with a journal

-- Its message wasn't written in full. Nothing was read then, and the journal is unchanged.
pub record IsStartUnsaid (here : Setting) (J : List Record) (disk : Disks) (same_input : Type 0) (sink : Sinks) (ends : ServerEnding) : Type 0 where
  pub unread : same_input
  pub unsaid : IsUnsaid sink (started_text here J) ends
  pub stands : StandsOn disk J
  pub grows : GrowsFromFile here disk J

-- All input up to its end was requests, and each was answered: after the first message the replies were written, in
-- their order, and the journal is what the requests make of it.
pub record IsServedWhole (here : Setting) (f : ServesBody) (J : List Record) (disk : Disks) (input : Inputs) (sink : Sinks) (ends : ServerEnding) : Type 0 where
  pub done : List Message
  pub ending_is : ends ≡ ending.Done
  pub each : AreAsking done
  pub given : input.after ≡ input.before ++ flat_map text_of_message done
  pub over : input.over ≡ true
  pub wrote : Wrote sink (started_text here J ++ (came_of f J (bodies_of done)).text)
  pub stands : StandsOn disk (came_of f J (bodies_of done)).journal
  pub grows : GrowsFromFile here disk (came_of f J (bodies_of done)).journal
  pub kept : AllAreLeft f J disk done (came_of f J (bodies_of done)).journal

-- The run was cut short. Some requests were answered, and after the first message their replies are complete. The next
-- ones may have been started: each crash image has the journal after the answered ones and a prefix of what the next
-- ones bring.
pub record IsServedShort (here : Setting) (f : ServesBody) (J : List Record) (disk : Disks) (input : Inputs) (sink : Sinks) (ends : ServerEnding) : Type 0 where
  pub done : List Message
  pub why : ServeEnding
  pub ending_is : ends ≡ ending_of_served (Err why)
  pub each : AreAsking done
  pub breaks : BreaksOff f (StandsOn disk) (came_of f J (bodies_of done)).journal (input.before ++ flat_map text_of_message done) input.after input.over (faults_risen disk.faults_before disk.faults_after input sink) (place_from 0 done) why
  pub wrote : Wrote sink (started_text here J ++ ((came_of f J (bodies_of done)).text ++ breaks.last))
  pub grows : GrowsFromFile here disk (came_of f (came_of f J (bodies_of done)).journal (bodies_of breaks.next)).journal
  pub kept : AllAreLeft f J disk done (came_of f (came_of f J (bodies_of done)).journal (bodies_of breaks.next)).journal

-- What became of it: its message wasn't written in full; or the input was served, to the end or in part.
abbrev pub ServesJournal : Setting → ServesBody → List Record → Disks → Inputs → (same_input : Type 0) → Sinks → ServerEnding → Type 0
ServesJournal here f J disk input same_input sink ends =
    IsStartUnsaid here J disk same_input sink ends ⊎ (IsServedWhole here f J disk input sink ends ⊎ IsServedShort here f J disk input sink ends)

-- ---- how a run begins

-- A start was refused: the run says why and ends, and nothing was read. If the key, the roster or the journal is the
-- reason, the file reads as before, too.
pub record IsServerRefused (here : Setting) (key : PublicKey) (disk : Disks) (same_input : Type 0) (sink : Sinks) (ends : ServerEnding) : Type 0 where
  pub error : StartError
  pub is : IsNotStarted here key (IsTrue disk.tells) disk.file error
  pub said : IsRefusalSaid sink error ends
  pub disk_failed : error ≡ refused.Disk → HasFailed disk
  pub unchanged : LeavesFile error → disk.file_after ≡ disk.file
  pub unread : same_input

-- The node was started: the roster has its key, and its journal is lawful; if the disk's bytes are visible, it is the
-- file's, or a birth if that has no records. The first message says so, and the input is served from that journal on.
-- Unless memory ran out or the disk failed, a journal is settled.
pub record IsServerStarted (here : Setting) (key : PublicKey) (f : ServesBody) (disk : Disks) (input : Inputs) (same_input : Type 0) (sink : Sinks) (ends : ServerEnding) : Type 0 where
  pub keyed : key_of here.listed here.me ≡ Some key
  pub journal : List Record
  pub lawful : IsLawful here journal
  pub from : IsTrue disk.tells → IsStartedFrom here disk.file journal
  pub serves : ServesJournal here f journal disk input same_input sink ends
  pub rests : IsTrue disk.tells → EndsRunning ends → Settles here disk
  pub never_unlawful : ends ≢ ending.NotLawful
  pub never_another : ends ≢ ending.Identity

-- A run begins: the node is refused, or it starts.
abbrev pub ServerBegins : {G S I : Type 0} → signer_of.Ghosts G S → G → Setting → Disks → source_of.Ghosts I → I → I → Sinks → ServerEnding → Type 0
ServerBegins g signer here disk i before after sink ends =
    IsServerRefused here (g.key_of signer) disk (after ≡ before) sink ends ⊎
    IsServerStarted here (g.key_of signer) (serves_at here (g.signature_of signer)) disk (inputs i before after) (after ≡ before) sink ends

-- ---- what a run answers

-- The node wasn't started though the journal is lawful: no memory was found, or the disk failed. Nothing was read. Each
-- crash image was possible before, or has the journal and its birth.
pub record IsUnstarted (here : Setting) (J : List Record) (disk : Disks) (same_input : Type 0) (sink : Sinks) (ends : ServerEnding) : Type 0 where
  pub unread : same_input
  pub error : StartError
  pub only : LeavesFile error → ⊥
  pub said : IsRefusalSaid sink error ends
  pub disk_failed : error ≡ refused.Disk → HasFailed disk
  pub leaves : (image : List ℕ) → disk.may_leave_after image → disk.may_leave image ⊎ HasFront J (birth_after here J) image
  pub reads : disk.may_leave disk.file_after ⊎ HasFront J (birth_after here J) disk.file_after
  pub grows : GrowsTo J (started here J) disk

-- Over a lawful journal of this node under its key, or none: the input was requests, and what is written and kept is
-- their outcome from that journal on; or the run was cut short.
pub record AnswersInput (here : Setting) (key : PublicKey) (f : ServesBody) (disk : Disks) (input : Inputs) (same_input : Type 0) (sink : Sinks) (ends : ServerEnding) : Type 0 where
  pub over : IsTrue disk.tells → key_of here.listed here.me ≡ Some key → (J : List Record) → IsLawful here J → HasRecords J disk.file
      → IsUnstarted here J disk same_input sink ends ⊎ ServesJournal here f (started here J) disk input same_input sink ends

abbrev pub ServerAnswers : {G S I : Type 0} → signer_of.Ghosts G S → G → Setting → Disks → source_of.Ghosts I → I → I → Sinks → ServerEnding → Type 0
ServerAnswers g signer here disk i before after sink ends =
    AnswersInput here (g.key_of signer) (serves_at here (g.signature_of signer)) disk (inputs i before after) (after ≡ before) sink ends

-- ---- faults that came

-- what may be answered where the disk failed
abbrev pub IsAfterDiskFault : ServerEnding → Type 0
IsAfterDiskFault e = (e ≡ ending.Disk) ⊎ ((e ≡ ending.Sink) ⊎ (e ≡ ending.Memory))
