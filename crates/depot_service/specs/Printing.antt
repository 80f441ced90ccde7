-- What is reported of reads and streams.
use Rattle.std.specs.Prelude.{◌≡◌, ℕ, List, Option, Some, None, Err}
use Rattle.std.specs.List.{flat_map}
use Rattle.depot_base.specs.declared.record.Record.{Record}
use Rattle.depot_streams.specs.Pieces.{Feeds, Stream}
use Rattle.depot_streams.specs.declared.feed_error.FeedError.{FeedError}
use Rattle.depot_streams.specs.declared.feed_error.FeedError.TheVariants as feed_error
use Rattle.depot_model.specs.checks.Checks.{Setting}
use Rattle.depot_model.specs.texts.Contents.{Sighting, held_value, not_held}
use Rattle.depot_model.specs.exchange.Feeding.{Feeding, fed, report_of}
use Rattle.depot_model.specs.worlds.World.{Shown}
use Rattle.depot_answers.specs.AnswerTexts.{spaced, text_of_write}
use Rattle.depot_answers.specs.Closings.{closing_of}
use Rattle.depot_service.specs.declared.feeds.FeedResult.{FeedResult}

-- ---- reads

-- what a read shows of a write that is no deletion: its value, if held
abbrev pub shown_value : Option (List ℕ) → Sighting
shown_value (Some v) = held_value v
shown_value None = not_held

-- what is printed of the writes that a read shows
abbrev pub shown_text : List Shown → List ℕ
shown_text ws = flat_map (λ w. spaced (text_of_write w)) ws

-- ---- streams

-- these are the errors by which a stream isn't reported of
abbrev pub IsMemoryOrDisk : FeedError → Type 0
IsMemoryOrDisk feed_error.Memory = Unit {0}
IsMemoryOrDisk feed_error.Disk = Unit {0}
IsMemoryOrDisk other = ⊥

-- the line of a stream says what became of this feed, and why it was closed
pub record IsToldOf (s : Feeding) (f : FeedResult) : Type 0 where
  pub report : report_of s ≡ f.report
  pub closing : s.closed ≡ closing_of f.closing

-- For any bytes fed to the feed that this error closed: this is printed of it, and its journal is the node's.
abbrev pub IsToldClosed : Stream → FeedError → FeedResult → Type 0
IsToldClosed feed error told = (here : Setting) (s : Feeding) (bytes : List ℕ) (J : List Record) → Feeds here s bytes (Err error) feed J
    → IsToldOf (fed here s bytes) told × (J ≡ (fed here s bytes).journal)
