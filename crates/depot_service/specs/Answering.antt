-- The outcome of what a node is asked, and what answering makes of the node.
use Rattle.std.specs.Prelude.{◌≡◌, ◌⊎◌, List, [], ◌++◌, ℕ, false, IsTrue, Result, Ok, Err}
use Rattle.depot_base.specs.Faults.{HasCause}
use Rattle.depot_base.specs.declared.record.Record.{Record}
use Rattle.depot_gossip.specs.SendCalls.{Sends, sent_by}
use Rattle.depot_streams.specs.Lasting.{LastsIn}
use Rattle.depot_model.specs.exchange.Bundle.{Signs}
use Rattle.depot_model.specs.checks.Checks.{Setting}
use Rattle.depot_model.specs.journals.JournalCalls.{Lasts}
use Rattle.depot_model.specs.journals.Replicas.{IsSameNode, journal_of}
use Rattle.depot_model.specs.journals.Stops.{LeavesAll}
use Rattle.depot_model.specs.declared.node_state.NodeState.{Ghosts}
use Rattle.depot_questions.specs.QuestionAnswers.{text_of_answer}
use Rattle.depot_questions.specs.Answers.{told_of_question}
use Rattle.depot_requests.specs.ExportTexts.{text_of_export}
use Rattle.depot_requests.specs.ReplyTexts.{text_of_reply}
use Rattle.depot_requests.specs.Requests.{Served, served}
use Rattle.depot_requests.specs.declared.reply.Halt.{Halt}
use Rattle.depot_requests.specs.declared.reply.Halt.TheVariants as halt
use Rattle.depot_service.specs.RequestCalls.{Serves}
use Rattle.depot_service.specs.TracePrinting.{export_of}
use Rattle.depot_service.specs.declared.asked.Asked.{Asked}
use Rattle.depot_service.specs.declared.asked.Asked.TheVariants as asked

-- the journal afterwards, and the message that answers
pub record Came : Type 0 where
  pub journal : List Record
  pub text : List ℕ

-- a journal, and the message of a reply
abbrev pub came_to : Served → Came
came_to s = record { journal = s.journal; text = text_of_reply s.reply }

-- The outcome of what is asked, by the node's setting, its signer and its journal. A question changes nothing, nor does
-- an export: the trace has no reads.
abbrev pub came_by : Setting → Signs → List Record → Asked → Came
came_by here sign J (asked.Request r) = came_to (served here sign J r)
came_by here sign J (asked.Question q) = record { journal = J; text = text_of_answer (told_of_question here J q) }
came_by here sign J (asked.Sending s) = came_to (sent_by here sign J s)
came_by here sign J asked.Export = record { journal = J; text = text_of_export (export_of here.me J []) }

-- ---- one call

-- A node runs, and each crash image has its records.
pub record IsServing {N : Type 0} (g : Ghosts N) (node : N) : Type 0 where
  pub runs : g.stopped node ≡ false
  pub stable : IsTrue (g.tells node) → LeavesAll (g.records node) false (g.may_leave node)

-- a question and an export change nothing
abbrev pub ChangesNothing : Asked → Type 0
ChangesNothing (asked.Question q) = Unit {0}
ChangesNothing asked.Export = Unit {0}
ChangesNothing other = ⊥

-- what the journal is where the node was kept from what is asked
abbrev pub IsLeftBy : Setting → Signs → List Record → Asked → Halt → List Record → Type 0
IsLeftBy here sign J (asked.Request r) e then = Serves here sign J r (Err e) then
IsLeftBy here sign J (asked.Sending s) e then = Sends here sign J s (Err e) then
IsLeftBy here sign J other e then = then ≡ J

-- The node was kept from it; or it was done, and no memory was found for the message that answers.
abbrev pub IsUnanswered : Setting → Signs → List Record → Asked → Halt → List Record → Type 0
IsUnanswered here sign J a e then = IsLeftBy here sign J a e then ⊎ ((e ≡ halt.Memory) × (then ≡ (came_by here sign J a).journal))

-- The message that answers and the journal afterwards are the defined outcome; or there is no answer.
abbrev pub AnswersAsked : Setting → Signs → List Record → Asked → Result (List ℕ) Halt → List Record → Type 0
AnswersAsked here sign J a (Ok text) then = came_by here sign J a ≡ record { journal = then; text = text }
AnswersAsked here sign J a (Err e) then = IsUnanswered here sign J a e then

-- The call was to append these records: with them the journal is `then`. Every crash image of it has the records from
-- before and a prefix of those; every later one all records of the node. The node runs on unless its disk failed, which
-- is answered if its count rose; a disk that never fails by itself stays one.
pub record IsAskedCall {N : Type 0} (g : Ghosts N) (old new : N) (then : List Record) (failed : Type 0) : Type 0 where
  pub same : IsSameNode g old new
  pub appends : List Record
  pub brings : then ≡ g.records old ++ appends
  pub lasts : Lasts (journal_of g) old new appends
  pub lawful : LastsIn g failed old new
  pub runs : (failed → ⊥) → g.stopped new ≡ false
  pub cause : HasCause (g.faults old) (g.faults new) failed
  pub calm : g.is_faultless old → g.is_faultless new × (g.faults new ≡ g.faults old)
