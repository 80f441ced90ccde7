-- The outcome of a request of readers, and what is printed of it.
use Rattle.std.specs.Prelude.{ℕ, List, [], length, Option, Some, None}
use Rattle.std.specs.List.{flat_map}
use Rattle.depot_answers.specs.AnswerTexts.{spaced, text_of_kept, text_of_reader_feed, text_of_unsigned, text_of_write}
use Rattle.depot_answers.specs.declared.reader_answers.ReaderCounts.{ReaderCounts}
use Rattle.depot_base.specs.declared.record.Record.{Record}
use Rattle.depot_model.specs.checks.Checks.{Setting}
use Rattle.depot_model.specs.journals.Journal.{accepted}
use Rattle.depot_model.specs.readers.Opening.{ill_at, of_roster, opened, with_unknown}
use Rattle.depot_model.specs.readers.ReaderFeeds.{ReaderFeed, reader_feed_of}
use Rattle.depot_model.specs.readers.Readers.{Reader, TrimAnswer, kept, reading, shown_by_reader, trim_of, unopened, unsigned}
use Rattle.depot_requests.specs.Effects.{ended}
use Rattle.depot_requests.specs.Replies.{text_of_reason}
use Rattle.depot_requests.specs.declared.reader_reply.ReaderReply.{ReaderReply}
use Rattle.depot_requests.specs.declared.reader_reply.ReaderReply.TheVariants as told
use Rattle.depot_requests.specs.declared.reader_request.ReaderRequest.{ReaderRequest}
use Rattle.depot_requests.specs.declared.reader_request.ReaderRequest.TheVariants as asks
use Rattle.depot_requests.specs.declared.reader_request.ReaderUse.{ReaderUse}
use Rattle.depot_requests.specs.declared.reader_request.ReaderUse.TheVariants as uses
use Rattle.depot_requests.specs.declared.reply.Reason.TheVariants as reason

-- ---- its outcome

-- a reader after a request, if there is one, and the reply
pub record ReaderServed : Type 0 where
  pub reader : Option Reader
  pub reply : ReaderReply

-- A node was to make a reader, and answers this. (A text that is opened isn't refused.)
abbrev pub made_served : TrimAnswer → ReaderServed
made_served (unopened (ill_at at)) = record { reader = None; reply = told.Refused (reason.IllFormed at) }
made_served (unopened (of_roster given)) = record { reader = None; reply = told.Refused (reason.OtherRoster given) }
made_served (unopened (with_unknown id)) = record { reader = None; reply = told.Refused (reason.Unknown id) }
made_served (unopened (opened ids)) = record { reader = None; reply = told.NoReader }
made_served (unsigned node) = record { reader = None; reply = told.Unsigned node }
made_served (reading R) = record { reader = Some R; reply = told.Made (length (kept R)) (length (accepted R.journal)) }

-- how many frames of a stream had each outcome
abbrev pub counts_of_feed : ReaderFeed → ReaderCounts
counts_of_feed s = record { accepted = s.accepted; known = s.known; refused = s.refused; below = s.below }

-- the words of the writes of a key that a reader shows, each preceded by a space
abbrev pub words_shown : Reader → List ℕ → List ℕ
words_shown R key = flat_map (λ w. spaced (text_of_write w)) (shown_by_reader R key)

-- a reader after it was used, and the reply
pub record ReaderUsed : Type 0 where
  pub reader : Reader
  pub reply : ReaderReply

-- it has taken a stream so
abbrev pub fed_used : ReaderFeed → ReaderUsed
fed_used s = record { reader = s.reader; reply = told.Took (counts_of_feed s) s.full }

-- a reader is used
abbrev pub used_by : Reader → ReaderUse → ReaderUsed
used_by R (uses.Give stream) = fed_used (reader_feed_of R stream)
used_by R (uses.Get key) = record { reader = R; reply = told.Read (words_shown R key) }

-- the same where there may be none
abbrev pub use_served : Option Reader → ReaderUse → ReaderServed
use_served None u = record { reader = None; reply = told.NoReader }
use_served (Some R) u = record { reader = Some (used_by R u).reader; reply = (used_by R u).reply }

-- the reader that was made, if one was, is the last one then
abbrev pub served_last : Option Reader → ReaderServed → ReaderServed
served_last last d = elim d.reader [
  | None ↦ record { reader = last; reply = d.reply }
  | Some R ↦ d
]

-- The outcome of a request of readers, by the node's setting, its journal, and the last reader that was made of it, if
-- there is one: the last reader then, and the reply. The node is unchanged.
abbrev pub reader_served : Setting → List Record → Option Reader → ReaderRequest → ReaderServed
reader_served here J last (asks.Trim text) = served_last last (made_served (trim_of here J text))
reader_served here J last (asks.Use u) = use_served last u

-- ---- what is printed of it

-- after the arrow
abbrev pub answer_of_reader_reply : ReaderReply → List ℕ
answer_of_reader_reply (told.Made left all) = spaced (text_of_kept left all)
answer_of_reader_reply (told.Unsigned node) = spaced (text_of_unsigned node)
answer_of_reader_reply (told.Refused why) = spaced (text_of_reason why)
answer_of_reader_reply (told.Took counts full) = spaced (text_of_reader_feed counts full)
answer_of_reader_reply (told.Read words) = words
answer_of_reader_reply told.NoReader = []

-- its line
abbrev pub line_of_reader_reply : ReaderReply → List ℕ
line_of_reader_reply r = ended (answer_of_reader_reply r)
