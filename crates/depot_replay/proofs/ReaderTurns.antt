-- A hosted node's reader, as a simulation sees it: whose it is, and what it replies.
use Rattle.std.proofs.Common.{◌≡◌, Option, Some, None, Result, Ok, Err}
use Rattle.std.specs.Prelude.{IfOk, OnOk}
use Rattle.depot_base.specs.declared.memory.Memory.{Memory}
use Rattle.depot_model.specs.readers.Readers.{Reader}
use Rattle.depot_model.specs.texts.Roster.{Verifies}
use Rattle.depot_requests.specs.ReaderRequests.{used_by}
use Rattle.depot_requests.specs.declared.reader_reply.ReaderReply.{ReaderReply}
use Rattle.depot_requests.specs.declared.reader_request.ReaderUse.{ReaderUse}
use Rattle.depot_service.specs.ReaderCalls.{KeepsReader, UsesReader}
use Rattle.depot_simulation.specs.Readers.{IsMade}
use Rattle.depot_trim.specs.ReaderView.{IsReaderOf}
use Rattle.depot_trim.specs.declared.trimmed.Trimmed.{Trimmed}

-- what is kept for a reader is that reader's
pub hosted_one : (S X : Type 0) (verifies : Verifies) (reads : Reader → X → Type 0) (t : Trimmed S) (x : X) (R : Option Reader) → ((r : Reader) → IsReaderOf verifies r t → reads r x) → KeepsReader verifies (Some t) R → IsMade reads (Some x) R
hosted_one S X verifies reads t x None of keeps = absurd keeps
hosted_one S X verifies reads t x (Some r) of keeps = of r keeps

pub hosted_none : (S X : Type 0) (verifies : Verifies) (reads : Reader → X → Type 0) (R : Option Reader) → KeepsReader {S = S} verifies None R → IsMade {R = X} reads None R
hosted_none S X verifies reads None keeps = tt
hosted_none S X verifies reads (Some r) keeps = absurd keeps

-- a use of it is replied to, and it goes on
pub use_replied : {S : Type 0} (verifies : Verifies) (R : Reader) (u : ReaderUse) (replied : Result ReaderReply Memory) (t : Trimmed S) → UsesReader verifies R u replied t → IfOk replied (λ reply. reply ≡ (used_by R u).reply)
use_replied verifies R u (Ok reply) t uses = uses.0
use_replied verifies R u (Err memory) t uses = tt

pub use_goes_on : {S : Type 0} (verifies : Verifies) (R : Reader) (u : ReaderUse) (replied : Result ReaderReply Memory) (t : Trimmed S) → UsesReader verifies R u replied t → OnOk replied (IsReaderOf verifies (used_by R u).reader t)
use_goes_on verifies R u (Ok reply) t uses = uses.1
use_goes_on verifies R u (Err memory) t uses = tt
