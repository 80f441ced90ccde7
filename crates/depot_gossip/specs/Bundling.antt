-- What a node answers to a hello, and what its journal is then.
use Rattle.std.specs.Prelude.{◌≡◌, ℕ, ◌⊎◌, List, [], Bool, true, Result, Ok, Err, IsErrOf}
use Rattle.depot_base.specs.declared.record.Record.{Record}
use Rattle.depot_model.specs.checks.Checks.{Setting}
use Rattle.depot_model.specs.texts.Texts.{hash_of_roster}
use Rattle.depot_model.specs.checks.Limits.{spent, full, IsCutShort}
use Rattle.depot_model.specs.checks.Vouching.{records_of}
use Rattle.depot_model.specs.exchange.Bundle.{Parcel, Signs, Bundle, BundleAnswer, bundled, bad_hello, other_roster, limited, bytes_of_bundle, with_vouchers, bundle_answer}
use Rattle.depot_model.specs.declared.node_state.NodeState.{Ghosts}
use Rattle.depot_streams.specs.Lasting.{IsLawfulCall}
use Rattle.depot_gossip.specs.Preparing.{IsReady}
use Rattle.depot_gossip.specs.declared.preparing.Prepared.{Prepared}
use Rattle.depot_gossip.specs.declared.bundle_stream.Bundled.{Bundled}
use Rattle.depot_gossip.specs.declared.bundle_error.BundleError.{BundleError}
use Rattle.depot_gossip.specs.declared.bundle_error.BundleError.TheVariants as error

-- ---- the answer

-- the answer is a bundle, this is its stream, and its vouchers were journaled
pub record IsBundled (answer : BundleAnswer) (J : List Record) (b : Bundled) (then : List Record) : Type 0 where
  pub bundle : Bundle
  pub is : answer ≡ bundled bundle
  pub bytes : b.bytes ≡ bytes_of_bundle bundle
  pub counts : b.counts ≡ bundle.counts
  pub more : b.more ≡ bundle.more
  pub grown : then ≡ with_vouchers J bundle.vouchers

-- the answer is a bundle, and its vouchers were journaled
pub record HasVouched (answer : BundleAnswer) (J then : List Record) : Type 0 where
  pub bundle : Bundle
  pub is : answer ≡ bundled bundle
  pub grown : then ≡ with_vouchers J bundle.vouchers

-- the answer is a bundle, and the disk cut its vouchers short
pub record HasVouchedPart (answer : BundleAnswer) (J then : List Record) : Type 0 where
  pub bundle : Bundle
  pub is : answer ≡ bundled bundle
  pub cut : IsCutShort J (records_of bundle.vouchers) then

-- the records that are journaled for an answer: the own vouchers of its bundle; none if it is no bundle
abbrev pub journaled_for : BundleAnswer → List Record
journaled_for (bundled b) = records_of b.vouchers
journaled_for other = []

-- What a node replies where this is the answer, and its journal afterwards. A stopped node says no more. `Memory` may
-- replace each other answer; then all vouchers of the bundle were journaled, or none.
abbrev pub BundlesBy : Setting → List Record → Bool → BundleAnswer → Result Bundled BundleError → List Record → Type 0
BundlesBy here J stopped answer (Ok b) then = IsBundled answer J b then
BundlesBy here J stopped answer (Err error.Memory) then = (then ≡ J) ⊎ HasVouched answer J then
BundlesBy here J stopped answer (Err error.Disk) then = HasVouchedPart answer J then
BundlesBy here J stopped answer (Err error.Stopped) then = (stopped ≡ true) × (then ≡ J)
BundlesBy here J stopped answer (Err (error.IllFormed at)) then = (answer ≡ bad_hello at) × (then ≡ J)
BundlesBy here J stopped answer (Err (error.OtherRoster given mine)) then = (answer ≡ other_roster given) × ((mine ≡ hash_of_roster here.listed) × (then ≡ J))
BundlesBy here J stopped answer (Err (error.Spent n)) then = (answer ≡ limited (spent n)) × (then ≡ J)
BundlesBy here J stopped answer (Err (error.Full what)) then = (answer ≡ limited (full what)) × (then ≡ J)

-- What a node answers to a text given as a hello, and its journal afterwards.
abbrev pub Bundles : Setting → Signs → List Record → Bool → List ℕ → Result Bundled BundleError → List Record → Type 0
Bundles here sign J stopped text result then = BundlesBy here J stopped (bundle_answer here sign J text) result then

-- ---- the node

-- the call was to journal the vouchers of this answer's bundle, and answered this
abbrev pub IsAnswerCall : {N : Type 0} → Ghosts N → N → N → BundleAnswer → Result Bundled BundleError → Type 0
IsAnswerCall g old new answer result = IsLawfulCall g old new (journaled_for answer) (IsErrOf result error.Stopped) (IsErrOf result error.Disk)

-- the same of the bundle for this text
abbrev pub IsBundleCall : {N : Type 0} → Ghosts N → N → N → List ℕ → Result Bundled BundleError → Type 0
IsBundleCall g old new text result = IsAnswerCall g old new (bundle_answer (g.stands old) (g.signature_of old) (g.records old) text) result

-- what is prepared is ready at a node
abbrev pub HasReady : {N : Type 0} → Ghosts N → N → Prepared → Type 0
HasReady g node p = (answer : BundleAnswer) × ((xs : List Parcel) × IsReady (g.stands node) (g.signature_of node) (g.records node) answer xs p)

-- For each answer that it is ready for: the node replies that, and the call was to journal its vouchers.
pub record SendsReady {N : Type 0} (g : Ghosts N) (old new : N) (p : Prepared) (result : Result Bundled BundleError) (answer : BundleAnswer) : Type 0 where
  pub bundles : BundlesBy (g.stands old) (g.records old) (g.stopped old) answer result (g.records new)
  pub call : IsAnswerCall g old new answer result

-- the same of each answer that it is ready for
abbrev pub IsReadySent : {N : Type 0} → Ghosts N → N → N → Prepared → Result Bundled BundleError → Type 0
IsReadySent g old new p result = (answer : BundleAnswer) (xs : List Parcel) → IsReady (g.stands old) (g.signature_of old) (g.records old) answer xs p → SendsReady g old new p result answer
