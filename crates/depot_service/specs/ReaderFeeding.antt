-- What a reader makes of a stream, and what is reported of that.
use Rattle.std.specs.Prelude.{◌≡◌, ◌+◌, ◌≤◌, ◌<◌, ℕ, Bool, true, false, List, length, take, Some, None, Result, Ok, Err}
use Rattle.depot_base.specs.declared.limits.TheConstants.{MOST_FRAMES}
use Rattle.depot_base.specs.declared.memory.Memory.{Memory}
use Rattle.depot_model.specs.readers.Readers.{Reader}
use Rattle.depot_model.specs.readers.ReaderFeeds.{ReaderFeed, frames_from, reader_fed, reader_feed_from, reader_feed_of}
use Rattle.depot_model.specs.texts.Roster.{Verifies}
use Rattle.depot_model.specs.declared.taken.Taken.{Taken}
use Rattle.depot_model.specs.declared.taken.Taken.TheVariants.{New, Known}
use Rattle.depot_trim.specs.ReaderView.{IsReaderOf}
use Rattle.depot_trim.specs.declared.trim_error.TrimTake.{TrimTake}
use Rattle.depot_trim.specs.declared.trim_error.TrimTake.TheVariants as failed
use Rattle.depot_trim.specs.declared.trimmed.Trimmed.{Trimmed}
use Rattle.depot_service.specs.declared.readers.ReaderFeedResult.{ReaderFeedResult}

-- what is reported of a stream is how a reader was fed
pub record IsReaderTold (s : ReaderFeed) (t : ReaderFeedResult) : Type 0 where
  pub accepted : s.accepted ≡ t.counts.accepted
  pub known : s.known ≡ t.counts.known
  pub refused : s.refused ≡ t.counts.refused
  pub below : s.below ≡ t.counts.below
  pub full : s.full ≡ t.full

-- what a reader makes of the first so many frames of a stream
abbrev pub front_fed : Reader → List ℕ → ℕ → ReaderFeed
front_fed R stream n = reader_fed (reader_feed_from R) (take n (frames_from MOST_FRAMES stream))

-- A reader took a prefix of a stream's frames, none of which met a limit, and nothing of the next one.
pub record HasTakenFront {S : Type 0} (verifies : Verifies) (R : Reader) (stream : List ℕ) (t : Trimmed S) : Type 0 where
  pub count : ℕ
  pub next : count < length (frames_from MOST_FRAMES stream)
  pub room : (front_fed R stream count).full ≡ None
  pub reader : IsReaderOf verifies (front_fed R stream count).reader t

-- A reader was fed this stream, and this is printed. If no memory was found for a frame, it has taken those before it.
abbrev pub IsReaderFed : {S : Type 0} → Verifies → Reader → List ℕ → Result ReaderFeedResult Memory → Trimmed S → Type 0
IsReaderFed verifies R stream (Ok told) t = IsReaderTold (reader_feed_of R stream) told × IsReaderOf verifies (reader_feed_of R stream).reader t
IsReaderFed verifies R stream (Err memory) t = HasTakenFront verifies R stream t

-- ---- frame by frame

-- so many frames of each kind were counted at most
pub record AreCountedWithin (n : ℕ) (t : ReaderFeedResult) : Type 0 where
  pub accepted : t.counts.accepted ≤ n
  pub known : t.counts.known ≤ n
  pub refused : t.counts.refused ≤ n
  pub below : t.counts.below ≤ n

-- what is reported where one frame more is answered so
abbrev pub after_frame : Result Taken TrimTake → ReaderFeedResult → ReaderFeedResult
after_frame (Ok New) t = record t { counts = record t.counts { accepted = t.counts.accepted + 1 } }
after_frame (Ok Known) t = record t { counts = record t.counts { known = t.counts.known + 1 } }
after_frame (Err (failed.Refused c)) t = record t { counts = record t.counts { refused = t.counts.refused + 1 } }
after_frame (Err (failed.BelowCheckpoint id)) t = record t { counts = record t.counts { below = t.counts.below + 1 } }
after_frame (Err (failed.Full what)) t = record t { full = Some what }
after_frame (Err failed.Memory) t = t

-- the frames after it are taken too
abbrev pub goes_on : Result Taken TrimTake → Bool
goes_on (Err (failed.Full what)) = false
goes_on (Err failed.Memory) = false
goes_on other = true
