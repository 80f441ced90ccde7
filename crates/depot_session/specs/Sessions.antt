-- What a script makes a node do, command by command: the lines, the journal, the files, and how the run ends.
use Rattle.std.specs.Prelude.{◌≡◌, ◌⊎◌, ℕ, List, [], ◌∷◌, ◌++◌, length, take, drop, Bool, true, is_some, Option, Some, None, codes, if◌then◌else◌}
use Rattle.std.specs.Str.{bytes_eq}
use Rattle.depot_answers.specs.AnswerTexts.{spaced, text_of_traced}
use Rattle.depot_answers.specs.declared.exchange_answers.Closing.{Closing}
use Rattle.depot_answers.specs.declared.exchange_answers.Closing.TheVariants as closing
use Rattle.depot_base.specs.Writes.{one_change}
use Rattle.depot_base.specs.declared.record.Record.{Record}
use Rattle.depot_model.specs.exchange.Bundle.{Signs}
use Rattle.depot_model.specs.checks.Checks.{Setting}
use Rattle.depot_model.specs.readers.Readers.{Reader}
use Rattle.depot_model.specs.worlds.Traces.{Trace}
use Rattle.depot_model.specs.worlds.World.{Correct, Read}
use Rattle.depot_lines.specs.Language.{join}
use Rattle.depot_requests.specs.Effects.{ended}
use Rattle.depot_requests.specs.ReaderRequests.{ReaderServed, line_of_reader_reply, reader_served}
use Rattle.depot_requests.specs.Replies.{lines_of_reply}
use Rattle.depot_requests.specs.Requests.{Served, reads_after, served}
use Rattle.depot_requests.specs.declared.reader_reply.ReaderReply.{ReaderReply}
use Rattle.depot_requests.specs.declared.reader_reply.ReaderReply.TheVariants as told
use Rattle.depot_requests.specs.declared.reader_request.ReaderRequest.{ReaderRequest}
use Rattle.depot_requests.specs.declared.reader_request.ReaderRequest.TheVariants as readers
use Rattle.depot_requests.specs.declared.reader_request.ReaderUse.TheVariants as use_of
use Rattle.depot_requests.specs.declared.reply.Reason.TheVariants as reason
use Rattle.depot_requests.specs.declared.reply.Reply.{Reply}
use Rattle.depot_requests.specs.declared.reply.Reply.TheVariants as reply
use Rattle.depot_requests.specs.declared.request.Request.{Request}
use Rattle.depot_requests.specs.declared.request.Request.TheVariants as request
use Rattle.depot_script.specs.Scripts.{command_words}
use Rattle.depot_script.specs.declared.command.Command.{Command}
use Rattle.depot_script.specs.declared.command.Command.TheVariants as command
use Rattle.depot_traces.specs.ToldTraces.{file_of_trace}
use Rattle.depot_world.specs.Audits.{trace_with}
use Rattle.depot_node.specs.Starting.{started}
use Rattle.depot_session.specs.declared.ending.ScriptEnding.{ScriptEnding}
use Rattle.depot_session.specs.declared.ending.ScriptEnding.TheVariants as ending
use Rattle.depot_session.specs.declared.requesting.TheConstants.{TAKEN_PIECE}

-- ---- the session

-- the files of a shelf by their names
abbrev pub Files : Type 0
Files = List ℕ → Option (List ℕ)

-- the files with these bytes under a name, replacing those that were there
abbrev pub stored : Files → List ℕ → List ℕ → Files
stored files name bytes other = if bytes_eq other name then Some bytes else files other

-- a node between two commands, how many of its reads were made in runs before this one, the files, and the last reader that was made
pub record Session : Type 0 where
  pub correct : Correct
  pub earlier : ℕ
  pub files : Files
  pub reader : Option Reader

-- A node as it is started from a journal, which gets a birth if it has no records. Its reads of earlier runs go on.
abbrev pub session_from : Setting → List Record → List Read → Files → Session
session_from here J reads files = record {
  correct = record { node = here.me; journal = started here J; reads = reads };
  earlier = length reads;
  files = files;
  reader = None;
}

-- the reads of this run
abbrev pub reads_of_run : Session → List Read
reads_of_run s = drop s.earlier s.correct.reads

-- what the node hands in for an audit: its record texts, and the reads of this run
abbrev pub trace_of_run : Session → Trace
trace_of_run s = trace_with s.correct (reads_of_run s)

-- ---- one command

-- A command as it goes: what it prints, the names under which it stores, the session after it, and how it ends the run,
-- if it does.
pub record Step : Type 0 where
  pub text : List ℕ
  pub stores : List (List ℕ)
  pub session : Session
  pub ending : Option ScriptEnding

-- how many of a command's words are printed: all but a value
abbrev pub printed_count : Command → ℕ
printed_count (command.Bundle hello file) = 3
printed_count (command.Puts changes) = 1
printed_count (command.Settled id k) = 3
printed_count other = 2

-- what is printed of a command: its words except a value, and these lines after the arrow
abbrev pub command_text : Command → List ℕ → List ℕ
command_text c lines = join 32 (take (printed_count c) (command_words c)) ++ codes " ->" ++ lines

-- the command stores under this name
abbrev pub StoresAs : Command → List ℕ → Type 0
StoresAs (command.Hello file) name = file ≡ name
StoresAs (command.Bundle hello file) name = file ≡ name
StoresAs (command.Export file) name = file ≡ name
StoresAs (command.Checkpoint file) name = file ≡ name
StoresAs other name = ⊥

-- the command loads or stores a file of this name
abbrev pub Names : Command → List ℕ → Type 0
Names (command.Hello file) name = file ≡ name
Names (command.Bundle hello file) name = (hello ≡ name) ⊎ (file ≡ name)
Names (command.Take file) name = file ≡ name
Names (command.Export file) name = file ≡ name
Names (command.Checkpoint file) name = file ≡ name
Names (command.Sign file) name = file ≡ name
Names (command.Trim file) name = file ≡ name
Names (command.Tgive file) name = file ≡ name
Names other name = ⊥

-- the names of the files that a command loads, depending on whether a reader was made before
abbrev pub loads_of : Bool → Command → List (List ℕ)
loads_of made (command.Bundle hello file) = hello ∷ []
loads_of made (command.Take file) = file ∷ []
loads_of made (command.Sign file) = file ∷ []
loads_of made (command.Trim file) = file ∷ []
loads_of true (command.Tgive file) = file ∷ []
loads_of made other = []

-- those of a prefix of the commands, given whether a reader was made before each
abbrev pub loads_given : List Bool → List Command → List (List ℕ)
loads_given [] commands = []
loads_given (made ∷ more) [] = []
loads_given (made ∷ more) (c ∷ cs) = loads_of made c ++ loads_given more cs

abbrev pub shelf_line : List ℕ → List ℕ
shelf_line name = codes "shelf " ++ name ++ codes "\n"

-- a file that a command loads isn't there
abbrev pub absent : Session → List ℕ → Step
absent s name = record { text = shelf_line name; stores = []; session = s; ending = Some ending.Shelf }

-- ---- what a command asks for

-- What a command asks for in a session.
pub data Asking : Type 0 where
  -- the node is asked for this
  asks_for : Request → Asking
  -- nothing is asked for, since a file of this name isn't there
  lacks : List ℕ → Asking
  -- the run is asked for its trace
  hands_in : Asking
  -- this is asked of the node and of the last reader
  asks_reader : ReaderRequest → Asking

-- with a file of this name, which may be absent
abbrev pub with_file : (List ℕ → Asking) → List ℕ → Option (List ℕ) → Asking
with_file asks name None = lacks name
with_file asks name (Some bytes) = asks bytes

-- The last reader is given a stream. If none was made, no file is loaded.
abbrev pub given_by_name : Session → List ℕ → Option Reader → Asking
given_by_name s name None = asks_reader (readers.Use (use_of.Give []))
given_by_name s name (Some R) = with_file (λ stream. asks_reader (readers.Use (use_of.Give stream))) name (s.files name)

abbrev pub asked_in : Session → Command → Asking
asked_in s (command.Put key value) = asks_for (request.Put (one_change key value))
asked_in s (command.Puts changes) = asks_for (request.Put changes)
asked_in s (command.Get key) = asks_for (request.Get key)
asked_in s (command.Hello file) = asks_for request.Hello
asked_in s (command.Bundle hello file) = with_file (λ bytes. asks_for (request.Bundle bytes)) hello (s.files hello)
asked_in s (command.Take file) = with_file (λ bytes. asks_for (request.Take bytes TAKEN_PIECE)) file (s.files file)
asked_in s (command.Receipt id) = asks_for (request.Receipt (id ∷ []))
asked_in s (command.Settled id k) = asks_for (request.Settled id k)
asked_in s (command.Export file) = hands_in
asked_in s (command.Checkpoint file) = asks_for request.Checkpoint
asked_in s (command.Sign file) = with_file (λ bytes. asks_for (request.Sign bytes)) file (s.files file)
asked_in s (command.Trim file) = with_file (λ text. asks_reader (readers.Trim text)) file (s.files file)
asked_in s (command.Tgive file) = given_by_name s file s.reader
asked_in s (command.Tget key) = asks_reader (readers.Use (use_of.Get key))

-- it asks a node
abbrev pub AsksTheNode : Command → Type 0
AsksTheNode (command.Export file) = ⊥
AsksTheNode (command.Trim file) = ⊥
AsksTheNode (command.Tgive file) = ⊥
AsksTheNode (command.Tget key) = ⊥
AsksTheNode other = Unit {0}

-- the file with whose bytes it asks one, if there is one
abbrev pub file_asked : Command → Option (List ℕ)
file_asked (command.Bundle hello file) = Some hello
file_asked (command.Take file) = Some file
file_asked (command.Sign file) = Some file
file_asked other = None

-- it asks of readers
abbrev pub AsksOfReaders : Command → Type 0
AsksOfReaders (command.Trim file) = Unit {0}
AsksOfReaders (command.Tgive file) = Unit {0}
AsksOfReaders (command.Tget key) = Unit {0}
AsksOfReaders other = ⊥

-- the file with whose bytes it does so, if there is one, depending on whether a reader was made before
abbrev pub reader_file : Bool → Command → Option (List ℕ)
reader_file made (command.Trim file) = Some file
reader_file true (command.Tgive file) = Some file
reader_file made other = None

-- ---- how a command ends the run

-- by why the feed of a stream was closed, if it was
abbrev pub ending_of_closing : Option Closing → Option ScriptEnding
ending_of_closing None = None
ending_of_closing (Some (closing.IllFormed at)) = Some ending.Input
ending_of_closing (Some (closing.Full what)) = Some ending.Limit

-- by the node's reply
abbrev pub ending_of_reply : Reply → Option ScriptEnding
ending_of_reply (reply.Stream report why) = ending_of_closing why
ending_of_reply (reply.Refused (reason.Limit met)) = Some ending.Limit
ending_of_reply (reply.Refused (reason.IllFormed at)) = Some ending.Input
ending_of_reply (reply.Refused (reason.OtherRoster given)) = Some ending.Identity
ending_of_reply other = None

-- by a reader's reply
abbrev pub ending_of_reader_reply : ReaderReply → Option ScriptEnding
ending_of_reader_reply (told.Refused (reason.IllFormed at)) = Some ending.Input
ending_of_reader_reply (told.Refused (reason.OtherRoster given)) = Some ending.Identity
ending_of_reader_reply (told.Took counts (Some what)) = Some ending.Limit
ending_of_reader_reply other = None

-- ---- what a command hands out, and where it is stored

-- what a reply hands out
abbrev pub handed_over : Reply → Option (List ℕ)
handed_over (reply.Hello hello text) = Some text
handed_over (reply.Bundle bytes counts more) = Some bytes
handed_over (reply.Checkpoint done text) = Some text
handed_over other = None

-- the name under which a command stores what is handed out to it
abbrev pub name_stored : Command → Option (List ℕ)
name_stored (command.Hello file) = Some file
name_stored (command.Bundle hello file) = Some file
name_stored (command.Export file) = Some file
name_stored (command.Checkpoint file) = Some file
name_stored other = None

-- what is handed out, if anything, becomes a file, if there is a name for it
abbrev pub files_after : Files → Option (List ℕ) → Option (List ℕ) → Files
files_after files (Some bytes) (Some name) = stored files name bytes
files_after files bytes name = files

abbrev pub names_after : Option (List ℕ) → Option (List ℕ) → List (List ℕ)
names_after (Some bytes) (Some name) = name ∷ []
names_after bytes name = []

-- ---- what each command does

-- A command with these lines after the arrow, which hands this out.
abbrev pub told_step : Session → Command → List ℕ → Option (List ℕ) → Option ScriptEnding → Step
told_step s c lines out ends = record {
  text = command_text c lines;
  stores = names_after out (name_stored c);
  session = record s { files = files_after s.files out (name_stored c) };
  ending = ends;
}

-- a command to which a node replied, and its reads then
abbrev pub answered_step : Session → Command → List Read → Served → Step
answered_step s c reads d =
    told_step (record s { correct = record { node = s.correct.node; journal = d.journal; reads = reads } }) c (lines_of_reply d.reply) (handed_over d.reply) (ending_of_reply d.reply)

-- one that asks a node for this
abbrev pub asked_step : Setting → Signs → Session → Command → Request → Step
asked_step here sign s c r = answered_step s c (reads_after s.correct r) (served here sign s.correct.journal r)

-- the line of the trace of a run
abbrev pub traced_text : Session → List ℕ
traced_text s = ended (spaced (text_of_traced (length s.correct.journal) (length (reads_of_run s))))

-- a command by which this was asked of readers: the last reader then, and the reply
abbrev pub reader_step : Session → Command → ReaderServed → Step
reader_step s c d = let step = told_step s c (line_of_reader_reply d.reply) None (ending_of_reader_reply d.reply) in record step { session = record step.session { reader = d.reader } }

-- the step of a command that asks for this
abbrev pub step_by : Setting → Signs → Session → Command → Asking → Step
step_by here sign s c (asks_for r) = asked_step here sign s c r
step_by here sign s c (lacks name) = absent s name
step_by here sign s c hands_in = told_step s c (traced_text s) (Some (file_of_trace (trace_of_run s))) None
step_by here sign s c (asks_reader r) = reader_step s c (reader_served here s.correct.journal s.reader r)

unfoldable pub step_of : Setting → Signs → Session → Command → Step
step_of here sign s c = step_by here sign s c (asked_in s c)

-- ---- a script

-- the outcome of a script: the lines, the session after it, and how the run ends
pub record Answers : Type 0 where
  pub text : List ℕ
  pub session : Session
  pub ending : ScriptEnding

-- a step that ends the run or not, and what comes after it
abbrev pub followed_by : Option ScriptEnding → Step → Answers → Answers
followed_by (Some ends) step rest = record { text = step.text; session = step.session; ending = ends }
followed_by None step rest = record { text = step.text ++ rest.text; session = rest.session; ending = rest.ending }

-- The commands are carried out one by one, up to the first that ends the run.
unfoldable pub answers_of : Setting → Signs → Session → List Command → Answers
answers_of here sign s [] = record { text = []; session = s; ending = ending.Done }
answers_of here sign s (c ∷ cs) = let step = step_of here sign s c in followed_by step.ending step (answers_of here sign step.session cs)

-- ---- what a script asks of the shelf

-- the names of the files that these commands load, each by the session before it
unfoldable pub loads_through : Setting → Signs → Session → List Command → List (List ℕ)
loads_through here sign s [] = []
loads_through here sign s (c ∷ cs) = loads_of (is_some s.reader) c ++ loads_through here sign (step_of here sign s c).session cs

-- the names under which they store
unfoldable pub stores_through : Setting → Signs → Session → List Command → List (List ℕ)
stores_through here sign s [] = []
stores_through here sign s (c ∷ cs) = (step_of here sign s c).stores ++ stores_through here sign (step_of here sign s c).session cs
