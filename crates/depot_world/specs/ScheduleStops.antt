-- The crash images of an event of a node.
use Rattle.std.specs.Prelude.{ℕ, ◌+◌, ◌-◌, ◌/◌, ◌%◌, List, [], ◌∷◌, ◌++◌, length, take, drop, ◌&&◌, ◌==◌, nat_le, Option, Some, None, codes, if◌then◌else◌}
use Rattle.depot_base.specs.declared.record.Record.{Record}
use Rattle.depot_model.specs.worlds.World.{Correct}
use Rattle.depot_answers.specs.AnswerTexts.{spaced, text_of_number, text_of_records}
use Rattle.depot_requests.specs.Effects.{Effect}
use Rattle.depot_world.specs.Run.{PendingStop, Host}

-- How many of the records that an event appends are in the image of a stop at this call, from 1. Every image has those
-- before the current one. Image 1 alone, which has all that was written, has the current one once its gate is written,
-- by the third of its calls. In image 2 the written gate is 255, which is closed, as is the gate before it was written.
unfoldable pub standing_after : PendingStop → ℕ
standing_after a = (a.call - 1) / 4 + (if a.image == 1 && nat_le 2 ((a.call - 1) % 4) then 1 else 0)

-- the crash images of a journal that was to grow to another
abbrev pub journal_left : List Record → List Record → PendingStop → List Record
journal_left J longer a = J ++ take (standing_after a) (drop (length J) longer)

-- a node's event as it went, and the stop that still waits
pub record EventResult : Type 0 where
  pub host : Host
  pub answer : List ℕ
  pub behind : List (List ℕ)
  pub bytes : List ℕ

-- the event went as it goes
abbrev pub result_by : Host → Option PendingStop → Effect → EventResult
result_by s pending d = record {
  host = record { correct = record { node = s.correct.node; journal = d.journal; reads = d.reads }; pending = pending };
  answer = d.answer;
  behind = d.behind;
  bytes = d.bytes;
}

-- the node was stopped, and is started again from what the stop left
abbrev pub stopped_with : Host → List Record → EventResult
stopped_with s J = record {
  host = record { correct = record { node = s.correct.node; journal = J; reads = s.correct.reads }; pending = None };
  answer = 32 ∷ text_of_number (codes "stopped records") (length J);
  behind = [];
  bytes = [];
}

-- the stop comes in this event, or stays set, so many calls nearer
abbrev pub result_pending : Host → Effect → PendingStop → EventResult
result_pending s d a =
    if nat_le a.call d.calls then stopped_with s (journal_left s.correct.journal d.journal a)
    else result_by s (Some (record { call = a.call - d.calls; image = a.image })) d

-- how an event of a node goes
unfoldable pub event_result : Host → Effect → EventResult
event_result s d = elim s.pending [
  | None ↦ result_by s None d
  | Some a ↦ result_pending s d a
]

-- ---- starting again

-- A node is started again from its disk: a sync, a query of the file's length, and a read of its bytes.
unfoldable pub restart_by : Correct → Effect
restart_by c = record { journal = c.journal; reads = c.reads; calls = 3; answer = spaced (text_of_records c.journal); behind = []; bytes = [] }
