-- What a node answers when asked for receipts, and its journal afterwards.
use Rattle.std.specs.Prelude.{◌≡◌, ◌≢◌, List, ℕ, Some, None, Result, Ok, Err, IsErrOf, IsErrAnd}
use Rattle.depot_base.specs.declared.write.Change.{Change}
use Rattle.depot_base.specs.declared.record.Record.{Record}
use Rattle.depot_model.specs.checks.Checks.{Setting}
use Rattle.depot_model.specs.worlds.Receipts.{receipt_changes, no_receipt, unknown, lacks_value}
use Rattle.depot_model.specs.checks.Putting.{Puts, put_records}
use Rattle.depot_model.specs.journals.Replicas.{IsNodeCall}
use Rattle.depot_model.specs.declared.node_state.NodeState.{Ghosts}
use Rattle.depot_model.specs.declared.put_answers.PutDone.{PutDone}
use Rattle.depot_model.specs.declared.put_answers.PutError.{PutError}
use Rattle.depot_model.specs.declared.put_answers.PutError.TheVariants as put
use Rattle.depot_queries.specs.declared.give_error.GiveError.{GiveError}
use Rattle.depot_queries.specs.declared.give_error.GiveError.TheVariants as give

-- the records that are appended then: the next own update, with its empty values
abbrev pub receipt_records : Setting → List Record → List (List ℕ) → List Record
receipt_records here J ids = put_records here J (receipt_changes ids)

-- nothing speaks against the receipts, and this is the outcome of their put
abbrev pub PutsReceipts : Setting → List Record → List (List ℕ) → Result PutDone PutError → List Record → Type 0
PutsReceipts here J ids answer then = (no_receipt J ids ≡ None) × Puts here J (receipt_changes ids) answer then

-- What a node answers when asked for receipts for these ids, and its journal afterwards. `Memory` may replace each
-- answer; then nothing is appended. A stopped node appends nothing either.
abbrev pub GivesReceipts : Setting → List Record → List (List ℕ) → Result PutDone GiveError → List Record → Type 0
GivesReceipts here J ids (Ok done) then = PutsReceipts here J ids (Ok done) then
GivesReceipts here J ids (Err give.Memory) then = then ≡ J
GivesReceipts here J ids (Err give.Disk) then = PutsReceipts here J ids (Err put.Disk) then
GivesReceipts here J ids (Err give.Stopped) then = then ≡ J
GivesReceipts here J ids (Err (give.Unknown h)) then = (no_receipt J ids ≡ Some (unknown h)) × (then ≡ J)
GivesReceipts here J ids (Err (give.NoValue h)) then = (no_receipt J ids ≡ Some (lacks_value h)) × (then ≡ J)
GivesReceipts here J ids (Err (give.Spent n)) then = PutsReceipts here J ids (Err (put.Spent n)) then
GivesReceipts here J ids (Err (give.Tips n)) then = PutsReceipts here J ids (Err (put.Tips n)) then
GivesReceipts here J ids (Err (give.Collides h)) then = PutsReceipts here J ids (Err (put.Collides h)) then
GivesReceipts here J ids (Err (give.Full what)) then = PutsReceipts here J ids (Err (put.Full what)) then

-- the call was to give these receipts and answered this; after each error but `Disk` nothing is appended
abbrev pub IsReceiptCall : {N : Type 0} → Ghosts N → N → N → List (List ℕ) → Result PutDone GiveError → Type 0
IsReceiptCall g old new ids result =
    IsNodeCall g old new (receipt_records (g.stands old) (g.records old) ids)
    (IsErrOf result give.Stopped) (IsErrOf result give.Disk) (IsErrAnd result (λ e. e ≢ give.Disk))

-- ---- on the way

-- what is found before a put: the changes if nothing forbids the receipts, else the refusal
abbrev pub AreReceiptsDue : List Record → List (List ℕ) → Result (List Change) GiveError → Type 0
AreReceiptsDue J ids (Ok changes) = (no_receipt J ids ≡ None) × (changes ≡ receipt_changes ids)
AreReceiptsDue J ids (Err give.Memory) = Unit {0}
AreReceiptsDue J ids (Err (give.Unknown h)) = no_receipt J ids ≡ Some (unknown h)
AreReceiptsDue J ids (Err (give.NoValue h)) = no_receipt J ids ≡ Some (lacks_value h)
AreReceiptsDue J ids (Err e) = ⊥

-- the refusal of a put, and its answer, as those of giving receipts
abbrev pub as_give_error : PutError → GiveError
as_give_error put.Memory = give.Memory
as_give_error put.Disk = give.Disk
as_give_error put.Stopped = give.Stopped
as_give_error (put.Spent n) = give.Spent n
as_give_error (put.Tips n) = give.Tips n
as_give_error (put.Collides h) = give.Collides h
as_give_error (put.Full what) = give.Full what

abbrev pub as_give : Result PutDone PutError → Result PutDone GiveError
as_give (Ok done) = Ok done
as_give (Err e) = Err (as_give_error e)
