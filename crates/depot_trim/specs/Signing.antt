-- What a node answers when it is to sign a checkpoint, and its journal afterwards.
use Rattle.std.specs.Prelude.{◌≡◌, ◌≢◌, ℕ, List, Result, Ok, Err, IsErrOf, IsErrAnd}
use Rattle.depot_base.specs.Writes.{one_change}
use Rattle.depot_base.specs.declared.record.Record.{Record}
use Rattle.depot_base.specs.declared.write.Change.{Change}
use Rattle.depot_model.specs.readers.Checkpoints.{checkpoint_key}
use Rattle.depot_model.specs.checks.Checks.{Setting}
use Rattle.depot_model.specs.checks.Putting.{Puts, put_records}
use Rattle.depot_model.specs.journals.Replicas.{IsNodeCall}
use Rattle.depot_model.specs.declared.node_state.NodeState.{Ghosts}
use Rattle.depot_model.specs.declared.put_answers.PutDone.{PutDone}
use Rattle.depot_model.specs.declared.put_answers.PutError.{PutError}
use Rattle.depot_model.specs.declared.put_answers.PutError.TheVariants as put
use Rattle.depot_model.specs.readers.Opening.{ill_at, with_unknown, opened, opened_text}
use Rattle.depot_trim.specs.Opens.{IsOfOther}
use Rattle.depot_trim.specs.declared.opening.OpenError.{OpenError}
use Rattle.depot_trim.specs.declared.opening.OpenError.TheVariants as open_error
use Rattle.depot_trim.specs.declared.sign_error.CheckpointError.{CheckpointError}
use Rattle.depot_trim.specs.declared.sign_error.CheckpointError.TheVariants as sign
use Rattle.depot_trim.specs.declared.signing.SigningPut.{SigningPut}

-- a checkpoint is signed by a put of its text under its key
abbrev pub signing_changes : List ℕ → List Change
signing_changes text = one_change (checkpoint_key text) text

-- the records that are appended then
abbrev pub signing_records : Setting → List Record → List ℕ → List Record
signing_records here J text = put_records here J (signing_changes text)

-- the text is that of a checkpoint that the node may sign
abbrev pub MaySignCheckpoint : Setting → List Record → List ℕ → Type 0
MaySignCheckpoint here J text = (ids : List (List ℕ)) × (opened_text here J text ≡ opened ids)

-- the node may sign it, and this is the outcome of the put
abbrev pub PutsCheckpoint : Setting → List Record → List ℕ → Result PutDone PutError → List Record → Type 0
PutsCheckpoint here J text answer then = MaySignCheckpoint here J text × Puts here J (signing_changes text) answer then

-- What a node answers when it is to sign this text, and the journal afterwards. `Memory` may replace each answer; then
-- nothing is appended. A stopped node appends nothing either.
abbrev pub SignsCheckpoint : Setting → List Record → List ℕ → Result PutDone CheckpointError → List Record → Type 0
SignsCheckpoint here J text (Ok done) then = PutsCheckpoint here J text (Ok done) then
SignsCheckpoint here J text (Err sign.Memory) then = then ≡ J
SignsCheckpoint here J text (Err sign.Disk) then = PutsCheckpoint here J text (Err put.Disk) then
SignsCheckpoint here J text (Err sign.Stopped) then = then ≡ J
SignsCheckpoint here J text (Err (sign.IllFormed at)) then = (opened_text here J text ≡ ill_at at) × (then ≡ J)
SignsCheckpoint here J text (Err (sign.OtherRoster given mine)) then = IsOfOther here J text given mine × (then ≡ J)
SignsCheckpoint here J text (Err (sign.Unknown id)) then = (opened_text here J text ≡ with_unknown id) × (then ≡ J)
SignsCheckpoint here J text (Err (sign.Spent n)) then = PutsCheckpoint here J text (Err (put.Spent n)) then
SignsCheckpoint here J text (Err (sign.Tips n)) then = PutsCheckpoint here J text (Err (put.Tips n)) then
SignsCheckpoint here J text (Err (sign.Collides h)) then = PutsCheckpoint here J text (Err (put.Collides h)) then
SignsCheckpoint here J text (Err (sign.Full what)) then = PutsCheckpoint here J text (Err (put.Full what)) then

-- the call was to sign this text and answered this; after each error but `Disk` nothing is appended
abbrev pub IsSigningCall : {N : Type 0} → Ghosts N → N → N → List ℕ → Result PutDone CheckpointError → Type 0
IsSigningCall g old new text result =
    IsNodeCall g old new (signing_records (g.stands old) (g.records old) text)
    (IsErrOf result sign.Stopped) (IsErrOf result sign.Disk) (IsErrAnd result (λ e. e ≢ sign.Disk))

-- ---- on the way

-- what is found before the put: the key and the value if the node may sign, else the refusal
abbrev pub IsDue : Setting → List Record → List ℕ → Result SigningPut CheckpointError → Type 0
IsDue here J text (Ok made) = MaySignCheckpoint here J text × ((made.key ≡ checkpoint_key text) × (made.value ≡ text))
IsDue here J text (Err sign.Memory) = Unit {0}
IsDue here J text (Err (sign.IllFormed at)) = opened_text here J text ≡ ill_at at
IsDue here J text (Err (sign.OtherRoster given mine)) = IsOfOther here J text given mine
IsDue here J text (Err (sign.Unknown id)) = opened_text here J text ≡ with_unknown id
IsDue here J text (Err e) = ⊥

-- why a text isn't opened, and the answer of a put, as answers of signing
abbrev pub as_unopened : OpenError → CheckpointError
as_unopened open_error.Memory = sign.Memory
as_unopened (open_error.IllFormed at) = sign.IllFormed at
as_unopened (open_error.OtherRoster given mine) = sign.OtherRoster given mine
as_unopened (open_error.Unknown id) = sign.Unknown id

abbrev pub as_checkpoint_error : PutError → CheckpointError
as_checkpoint_error put.Memory = sign.Memory
as_checkpoint_error put.Disk = sign.Disk
as_checkpoint_error put.Stopped = sign.Stopped
as_checkpoint_error (put.Spent n) = sign.Spent n
as_checkpoint_error (put.Tips n) = sign.Tips n
as_checkpoint_error (put.Collides h) = sign.Collides h
as_checkpoint_error (put.Full what) = sign.Full what

abbrev pub as_signed : Result PutDone PutError → Result PutDone CheckpointError
as_signed (Ok done) = Ok done
as_signed (Err e) = Err (as_checkpoint_error e)
