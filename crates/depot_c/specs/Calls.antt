-- One call on a handle: what its caller sees of it.
use Rattle.std.specs.Prelude.{◌≡◌, ◌-◌, ◌++◌, ℕ, List, [], Option, Some, None, Ok, Err, length, take, drop, min}
use Rattle.depot_c.specs.Asked.{asked_by}
use Rattle.depot_c.specs.Handles.{Does, HandleView, LendsRecords, nothing_kept}
use Rattle.depot_c.specs.Refusals.{IsTold, number_of, refusal_outcome, words_of}
use Rattle.depot_c.specs.NodeViews.{CallAnswer}
use Rattle.depot_c.specs.declared.ask.Ask.{Ask}
use Rattle.depot_c.specs.declared.ask.Ask.TheVariants as ask
use Rattle.depot_c.specs.declared.handle.Handle.{Handle}
use Rattle.depot_c.specs.declared.outcome.CallOutcome.TheVariants as outcome
use Rattle.depot_c.specs.declared.refused.Refused.TheVariants as refused

-- the bytes of a handle that its caller reads: the last answer, and the records that were lent last
pub record KeptBytes : Type 0 where
  pub answer : List ℕ
  pub records : List ℕ

abbrev pub kept_bytes : Handle → KeptBytes
kept_bytes h = record { answer = h.answer; records = h.lent }

abbrev pub no_bytes : KeptBytes
no_bytes = record { answer = []; records = [] }

-- a handle of nothing, with no answer and no records
abbrev pub IsNewHandle : HandleView → KeptBytes → Type 0
IsNewHandle v kept = (v ≡ nothing_kept) × (kept ≡ no_bytes)

-- Of bytes from an offset on, as many as there are and as have room are copied to the beginning of a piece.
pub record IsCopied (bytes : List ℕ) (at : ℕ) (room : List ℕ) (count : ℕ) (output : List ℕ) : Type 0 where
  pub many : count ≡ min (length bytes - at) (length room)
  pub copied : output ≡ take count (drop at bytes) ++ drop count room

-- The caller is told the status of what was answered, and the answer is kept: of a refusal its words.
abbrev pub KeepsAnswer : CallAnswer → ℕ → List ℕ → Type 0
KeepsAnswer (Ok a) status kept = (status ≡ number_of outcome.Done) × (kept ≡ a)
KeepsAnswer (Err r) status kept = (status ≡ number_of (refusal_outcome r)) × IsTold (words_of r) kept

-- What is asked is done, and the caller is told. The records that are lent stay.
pub record Performs (a : Ask) (n : ℕ) (input : List ℕ) (v : HandleView) (kept : KeptBytes) (status : ℕ) (w : HandleView) (then : KeptBytes) : Type 0 where
  pub told : CallAnswer
  pub does : Does a n input v told w
  pub settles : KeepsAnswer told status then.answer
  pub lent : then.records ≡ kept.records

-- the caller is told the status of what is lent; of a refusal nothing is
abbrev pub KeepsRecords : CallAnswer → ℕ → List ℕ → Type 0
KeepsRecords (Ok run) status lent = (status ≡ number_of outcome.Done) × (lent ≡ run)
KeepsRecords (Err r) status lent = (status ≡ number_of (refusal_outcome r)) × (lent ≡ [])

-- Records of the node are lent, in place of those from before. The answer stays.
pub record Lends (n : ℕ) (v : HandleView) (kept : KeptBytes) (status : ℕ) (w : HandleView) (then : KeptBytes) : Type 0 where
  pub view : w ≡ v
  pub told : CallAnswer
  pub lends : LendsRecords n v.node_view told
  pub settles : KeepsRecords told status then.records
  pub answer : then.answer ≡ kept.answer

-- All is as it was.
pub record IsHandleUntouched (v : HandleView) (kept : KeptBytes) (room : List ℕ) (w : HandleView) (then : KeptBytes) (output : List ℕ) : Type 0 where
  pub view : w ≡ v
  pub same : then ≡ kept
  pub unwritten : output ≡ room

-- No operation has this number, and the caller is told so.
pub record IsUnknown (v : HandleView) (kept : KeptBytes) (room : List ℕ) (w : HandleView) (then : KeptBytes) (status : ℕ) (output : List ℕ) : Type 0 where
  pub view : w ≡ v
  pub settles : KeepsAnswer (Err refused.Input) status then.answer
  pub lent : then.records ≡ kept.records
  pub unwritten : output ≡ room

-- What a call does, by what its operation asks.
abbrev pub ServesAsk : Option Ask → ℕ → List ℕ → HandleView → KeptBytes → List ℕ → HandleView → KeptBytes → ℕ → List ℕ → Type 0
ServesAsk None n input v kept room w then result output = IsUnknown v kept room w then result output
ServesAsk (Some ask.Length) n input v kept room w then result output = (result ≡ length kept.answer) × IsHandleUntouched v kept room w then output
ServesAsk (Some ask.Copy) n input v kept room w then result output = IsCopied kept.answer n room result output × IsHandleUntouched v kept output w then output
ServesAsk (Some ask.RecordsLength) n input v kept room w then result output = (result ≡ length kept.records) × IsHandleUntouched v kept room w then output
ServesAsk (Some ask.RecordsCopy) n input v kept room w then result output = IsCopied kept.records n room result output × IsHandleUntouched v kept output w then output
ServesAsk (Some ask.Clear) n input v kept room w then result output = IsNewHandle w then × ((result ≡ number_of outcome.Done) × (output ≡ room))
ServesAsk (Some ask.Records) n input v kept room w then result output = Lends n v kept result w then × (output ≡ room)
ServesAsk (Some a) n input v kept room w then result output = Performs a n input v kept result w then × (output ≡ room)

abbrev pub ServesCall : ℕ → ℕ → List ℕ → HandleView → KeptBytes → List ℕ → HandleView → KeptBytes → ℕ → List ℕ → Type 0
ServesCall op n input v kept room w then result output = ServesAsk (asked_by op) n input v kept room w then result output
