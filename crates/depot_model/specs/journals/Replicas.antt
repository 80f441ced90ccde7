-- What a call does to a node.
use Rattle.std.specs.Prelude.{◌≡◌, ◌≢◌, ℕ, List, Result, IsErrAnd, IsErrOf}
use Rattle.depot_base.specs.declared.record.Record.{Record}
use Rattle.depot_model.specs.journals.JournalCalls.{JournalView, IsJournalCall}
use Rattle.depot_model.specs.checks.Taking.{Form, growth_of_text}
use Rattle.depot_model.specs.checks.Vouching.{new_vouchers, records_of}
use Rattle.depot_model.specs.declared.bundle.VoucherError.{VoucherError}
use Rattle.depot_model.specs.declared.bundle.VoucherError.TheVariants as unvouched
use Rattle.depot_model.specs.declared.node_state.NodeState.{Ghosts}
use Rattle.depot_model.specs.declared.taken.TakeError.{TakeError}
use Rattle.depot_model.specs.declared.taken.TakeError.TheVariants as refused
use Rattle.depot_model.specs.declared.taken.Taken.{Taken}

-- the journal of a node, on its disk
abbrev pub journal_of : {N : Type 0} → Ghosts N → JournalView N
journal_of g = record {
  records = g.records;
  stopped = g.stopped;
  handle = g.handle;
  faults = g.faults;
  is_faultless = g.is_faultless;
  tells = g.tells;
  may_leave = g.may_leave;
  moment = g.moment;
  left_since = g.left_since;
  reads = g.reads;
  after = g.after;
}

-- The node is who it was: it has the same setting and key, and its signer gives what it gave.
pub record IsSameNode {N : Type 0} (g : Ghosts N) (old new : N) : Type 0 where
  pub stands : g.stands new ≡ g.stands old
  pub key : g.key new ≡ g.key old
  pub signs : g.signature_of new ≡ g.signature_of old

-- What a call on a node does: the node is who it was, and its journal changes as by a call that is asked to append
-- these records.
pub record IsNodeCall {N : Type 0} (g : Ghosts N) (old new : N) (appends : List Record) (stopped failed nothing : Type 0) : Type 0 where
  pub same : IsSameNode g old new
  pub journal : IsJournalCall (journal_of g) old new appends stopped failed nothing

-- the call was given a text of this form, and answered so; on `Memory` nothing is appended
abbrev pub IsTakeCall : {N : Type 0} → Ghosts N → Form → N → N → List ℕ → Result Taken TakeError → Type 0
IsTakeCall g form old new text result =
    IsNodeCall g old new (growth_of_text (g.stands old) (g.records old) form text)
    (IsErrOf result refused.Stopped) (IsErrOf result refused.Disk) (IsErrOf result refused.Memory)

-- the call was asked to vouch for these ids, and answered so; after each error but Disk nothing is appended
abbrev pub IsVoucherCall : {N : Type 0} → Ghosts N → N → N → List (List ℕ) → Result (Unit {0}) VoucherError → Type 0
IsVoucherCall g old new ids result =
    IsNodeCall g old new (records_of (new_vouchers (g.stands old).me (g.records old) ids))
    (IsErrOf result unvouched.Stopped) (IsErrOf result unvouched.Disk) (IsErrAnd result (λ e. e ≢ unvouched.Disk))
