-- The first message, unasked: that a node was started, or why it wasn't.
use Rattle.std.specs.Prelude.{ℕ, List, ◌++◌, length}
use Rattle.std.specs.Int.{w8, w16, w32}
use Rattle.depot_base.specs.Cursor.{numeral}
use Rattle.depot_base.specs.declared.record.Record.{Record}
use Rattle.depot_model.specs.checks.Checks.{Setting}
use Rattle.depot_model.specs.journals.Journal.{own}
use Rattle.depot_model.specs.texts.Texts.{hash_of_roster}
use Rattle.depot_node.specs.declared.start_error.StartError.{StartError}
use Rattle.depot_session.specs.SessionRuns.{line_of_refusal}
use Rattle.depot_session.specs.declared.start_telling.TheConstants.{MESSAGE_VERSION}

-- the message of a body: its length, as four bytes, and its bytes
abbrev pub message_of : List ℕ → List ℕ
message_of body = numeral w32 (length body) ++ body

-- A node with this journal was started: kind 0, the version of the messages, the node, its roster's hash, and how many statements it has made.
abbrev pub started_body : Setting → List Record → List ℕ
started_body here J = numeral w8 0 ++ (numeral w8 MESSAGE_VERSION ++ (numeral w16 here.me ++ (hash_of_roster here.listed ++ numeral w32 (length (own J)))))

abbrev pub started_text : Setting → List Record → List ℕ
started_text here J = message_of (started_body here J)

-- No node was started: kind 255, and the line of why.
abbrev pub refused_body : StartError → List ℕ
refused_body error = numeral w8 255 ++ line_of_refusal error

abbrev pub refused_text : StartError → List ℕ
refused_text error = message_of (refused_body error)
