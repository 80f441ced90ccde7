-- What is replied to a request of readers, and what the call leaves of the last one.
use Rattle.std.specs.Prelude.{◌≡◌, List, Option, Some, None, Result, Ok, Err}
use Rattle.depot_base.specs.declared.memory.Memory.{Memory}
use Rattle.depot_base.specs.declared.record.Record.{Record}
use Rattle.depot_model.specs.checks.Checks.{Setting}
use Rattle.depot_model.specs.readers.Readers.{Reader}
use Rattle.depot_model.specs.texts.Roster.{Verifies}
use Rattle.depot_requests.specs.ReaderRequests.{ReaderServed, reader_served, use_served, used_by}
use Rattle.depot_requests.specs.declared.reader_reply.ReaderReply.{ReaderReply}
use Rattle.depot_requests.specs.declared.reader_reply.ReaderReply.TheVariants as told
use Rattle.depot_requests.specs.declared.reader_request.ReaderRequest.{ReaderRequest}
use Rattle.depot_requests.specs.declared.reader_request.ReaderRequest.TheVariants as asks
use Rattle.depot_requests.specs.declared.reader_request.ReaderUse.{ReaderUse}
use Rattle.depot_requests.specs.declared.reader_request.ReaderUse.TheVariants as uses
use Rattle.depot_requests.specs.declared.reply.Reason.TheVariants as reason
use Rattle.depot_service.specs.ReaderFeeding.{HasTakenFront}
use Rattle.depot_trim.specs.ReaderView.{IsReaderOf}
use Rattle.depot_trim.specs.declared.trim_error.TrimError.{TrimError}
use Rattle.depot_trim.specs.declared.trim_error.TrimError.TheVariants as untrimmed
use Rattle.depot_trim.specs.declared.trimmed.Trimmed.{Trimmed}

-- why no reader was made, as it is replied; nothing for want of memory
abbrev pub reply_of_untrimmed : TrimError → Option ReaderReply
reply_of_untrimmed untrimmed.Memory = None
reply_of_untrimmed (untrimmed.IllFormed at) = Some (told.Refused (reason.IllFormed at))
reply_of_untrimmed (untrimmed.OtherRoster given mine) = Some (told.Refused (reason.OtherRoster given))
reply_of_untrimmed (untrimmed.Unknown id) = Some (told.Refused (reason.Unknown id))
reply_of_untrimmed (untrimmed.Unsigned node) = Some (told.Unsigned node)

-- ---- what is kept

-- what is kept is a reader, if anything is
abbrev pub IsSomebodys : {S : Type 0} → Verifies → Option (Trimmed S) → Type 0
IsSomebodys verifies None = Unit {0}
IsSomebodys verifies (Some t) = (R : Reader) × IsReaderOf verifies R t

-- what is kept is this reader, if there is one
abbrev pub KeepsReader : {S : Type 0} → Verifies → Option (Trimmed S) → Option Reader → Type 0
KeepsReader verifies None None = Unit {0}
KeepsReader verifies (Some t) (Some R) = IsReaderOf verifies R t
KeepsReader verifies kept last = ⊥

-- this is replied, and this is kept then
pub record IsReaderServed {S : Type 0} (verifies : Verifies) (d : ReaderServed) (reply : ReaderReply) (kept : Option (Trimmed S)) : Type 0 where
  pub reply_is : reply ≡ d.reply
  pub keeps : KeepsReader verifies kept d.reader

-- ---- a reader is used

-- what is left of it without a reply: a prefix of a stream's frames may have been taken
abbrev pub IsLeftUsed : {S : Type 0} → Verifies → Reader → ReaderUse → Trimmed S → Type 0
IsLeftUsed verifies R (uses.Give stream) t = HasTakenFront verifies R stream t
IsLeftUsed verifies R (uses.Get key) t = IsReaderOf verifies R t

-- What is replied to a use of it, and the reader then: what is defined, unless no memory was found.
abbrev pub UsesReader : {S : Type 0} → Verifies → Reader → ReaderUse → Result ReaderReply Memory → Trimmed S → Type 0
UsesReader verifies R u (Ok reply) t = (reply ≡ (used_by R u).reply) × IsReaderOf verifies (used_by R u).reader t
UsesReader verifies R u (Err memory) t = IsLeftUsed verifies R u t

-- the same of the last one, if there is one
abbrev pub IsLastLeftUsed : {S : Type 0} → Verifies → Option Reader → ReaderUse → Option (Trimmed S) → Type 0
IsLastLeftUsed verifies (Some R) u (Some t) = IsLeftUsed verifies R u t
IsLastLeftUsed verifies last u kept = ⊥

abbrev pub UsesLast : {S : Type 0} → Verifies → Option (Trimmed S) → ReaderUse → Result ReaderReply Memory → Option (Trimmed S) → Type 0
UsesLast verifies before u (Ok reply) after = (last : Option Reader) → KeepsReader verifies before last → IsReaderServed verifies (use_served last u) reply after
UsesLast verifies before u (Err memory) after = (last : Option Reader) → KeepsReader verifies before last → IsLastLeftUsed verifies last u after

-- ---- a request

-- what is left of the last reader without a reply: none was made, and a prefix of a stream's frames may have been taken
abbrev pub IsLastLeft : {S : Type 0} → Verifies → Option Reader → ReaderRequest → Option (Trimmed S) → Type 0
IsLastLeft verifies last (asks.Trim text) after = KeepsReader verifies after last
IsLastLeft verifies last (asks.Use u) after = IsLastLeftUsed verifies last u after

-- What is replied to a request of readers, and the last reader then: what is defined, unless no memory was found.
abbrev pub ServesReader : {S : Type 0} → Verifies → Setting → List Record → Option (Trimmed S) → ReaderRequest → Result ReaderReply Memory → Option (Trimmed S) → Type 0
ServesReader verifies here J before r (Ok reply) after = (last : Option Reader) → KeepsReader verifies before last → IsReaderServed verifies (reader_served here J last r) reply after
ServesReader verifies here J before r (Err memory) after = (last : Option Reader) → KeepsReader verifies before last → IsLastLeft verifies last r after
