-- A hosted node: its disk between two events, and the outcome of a call on it.
use Rattle.std.specs.Prelude.{◌≡◌, ◌≤◌, ◌<◌, ℕ, ◌-◌, List, [], ◌∷◌, ◌++◌, length, map, take, false, Some, None, slice_get, codes}
use Rattle.depot_base.specs.Calls.{FailsAmong, made}
use Rattle.depot_base.specs.File.{blocks}
use Rattle.depot_base.specs.declared.record.Record.{Record}
use Rattle.depot_model.specs.exchange.Bundle.{Signs}
use Rattle.depot_model.specs.checks.Checks.{Setting}
use Rattle.depot_model.specs.journals.Lawful.{IsLawful, is_empty}
use Rattle.depot_model.specs.texts.Records.{text_of_record}
use Rattle.depot_model.specs.journals.Stops.{HasRecords, calls_to_record}
use Rattle.depot_node.specs.Starting.{IsStartedFrom, LeavesFile, calls_to_start_node}
use Rattle.depot_node.specs.declared.start_error.StartError.{StartError}
use Rattle.depot_outside.specs.Stopping.{State, CallsLead}
use Rattle.depot_answers.specs.AnswerTexts.{text_of_number}
use Rattle.depot_world.specs.Run.{PendingStop}
use Rattle.depot_requests.specs.Effects.{Effect, calls_for_records, ended}
use Rattle.depot_simulation.specs.Acting.{ActorView}
use Rattle.depot_replay.specs.Disks.{IsAtRest, pending_of}

-- ---- its disk

-- The file has these records after open gates, and then a closed gate.
pub record StandIn (file : List ℕ) (bodies : List (List ℕ)) : Type 0 where
  pub inside : length (blocks bodies) < length file
  pub front : take (length (blocks bodies)) file ≡ blocks bodies
  pub closed : slice_get file (length (blocks bodies)) ≡ Some 1 → ⊥

-- The disk is at rest and has these records, and a stop that is set comes in a later call.
pub record IsKeptOn (s : State) (J : List Record) : Type 0 where
  pub at_rest : IsAtRest s
  pub stand : StandIn s.file (map text_of_record J)
  pub to_come : (a : PendingStop) → pending_of s.next ≡ Some a → 1 ≤ a.call

-- The records are those of a started node, and the disk has them.
pub record IsBegunOn (here : Setting) (s : State) (J : List Record) : Type 0 where
  pub lawful : IsLawful here J
  pub some : is_empty J ≡ false
  pub kept : IsKeptOn s J

-- The node was stopped: its disk has the records of a started journal, and no stop is set.
pub record WasStopped (here : Setting) (s : State) : Type 0 where
  pub journal : List Record
  pub begun : IsBegunOn here s journal
  pub none_waits : pending_of s.next ≡ None

-- ---- a start

-- A node was started from a disk in memory and has this journal, by the calls that start it from the records of the
-- file and no others.
pub record IsStartedIn (here : Setting) (s t : State) (records : List Record) : Type 0 where
  pub from : IsStartedFrom here s.file records
  pub calls : (J : List Record) → HasRecords J s.file → CallsLead s (made (calls_to_start_node here s.file J)) t

-- one of the calls that start a node from the records of the file failed
abbrev pub FailsToStart : Setting → State → State → Type 0
FailsToStart here s t = (J : List Record) → HasRecords J s.file → FailsAmong CallsLead s t (calls_to_start_node here s.file J)

-- no start is refused for what is in the file of a lawful journal
abbrev pub SparesLawful : Setting → State → StartError → Type 0
SparesLawful here s e = (J : List Record) → HasRecords J s.file → IsLawful here J → LeavesFile e → ⊥

-- ---- a call

-- A call on a node seen as this, with this disk, was to extend its journal. It did so, or it failed on the disk while
-- it appended.
pub record IsCalled (v : ActorView) (s t : State) (K longer : List Record) (failed : Type 0) : Type 0 where
  pub pending : v.pending ≡ pending_of s.next
  pub begun : IsBegunOn v.here s v.journal
  pub new : List Record
  pub grows : longer ≡ v.journal ++ new
  pub lawful : IsLawful v.here longer
  pub whole : (failed → ⊥) → (K ≡ longer) × CallsLead s (made (calls_to_record v.journal new)) t
  pub part : failed → FailsAmong CallsLead s t (calls_to_record v.journal new)

-- the same of a node that was seen so here, and had some disk
pub record WasCalled (here : Setting) (t : State) (K : List Record) (failed : Type 0) : Type 0 where
  pub view : ActorView
  pub before : State
  pub longer : List Record
  pub here_is : view.here ≡ here
  pub called : IsCalled view before t K longer failed

-- an event whose calls are those that append what its journal grows by
pub record Appends (d : Effect) (J longer : List Record) : Type 0 where
  pub journal : d.journal ≡ longer
  pub calls : d.calls ≡ calls_for_records (length longer - length J)

-- the line of a node that was stopped and has these records
abbrev pub stopped_line : List Record → List ℕ
stopped_line J = ended (32 ∷ text_of_number (codes "stopped records") (length J))

-- A stopped node was started again from its disk, and is hosted: it is seen as this, and these are the lines of the
-- event into which the stop fell, and the bytes for a label.
pub record IsHostedAgain (here : Setting) (sign : Signs) (s : State) (w : ActorView) (lines bytes : List ℕ) : Type 0 where
  pub here_is : w.here ≡ here
  pub sign_is : w.sign ≡ sign
  pub journal : (J : List Record) → IsBegunOn here s J → w.journal ≡ J
  pub none_waits : w.pending ≡ None
  pub line : lines ≡ stopped_line w.journal
  pub none : bytes ≡ []
