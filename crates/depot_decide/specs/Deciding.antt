-- What a node decides over its journal, and what comes of it.
use Rattle.std.specs.Prelude.{◌≡◌, ℕ, List, [], ◌∷◌, ◌++◌, Option, Some, None, Result, Ok, Err, slice_get}
use Rattle.depot_base.specs.declared.limits.TheConstants.{MOST_VALUE}
use Rattle.depot_base.specs.Closed.{Closed, closing, rest_of}
use Rattle.depot_base.specs.declared.check.Check.{Check}
use Rattle.depot_base.specs.declared.check.Full.{Full}
use Rattle.depot_base.specs.declared.check.Check.TheVariants as check
use Rattle.depot_base.specs.declared.proof.Proof.{Proof}
use Rattle.depot_base.specs.declared.record.Record.{Record}
use Rattle.depot_base.specs.declared.record.Record.TheVariants.{Foreign, Conviction}
use Rattle.depot_base.specs.declared.statement.Signed.{Signed}
use Rattle.depot_base.specs.declared.statement.Statement.TheVariants as statements
use Rattle.depot_base.specs.declared.update.Update.{Update}
use Rattle.depot_model.specs.declared.taken.Taken.{Taken}
use Rattle.depot_model.specs.declared.taken.Taken.TheVariants.{New}
use Rattle.depot_model.specs.declared.taken.TakeError.{TakeError}
use Rattle.depot_model.specs.declared.taken.TakeError.TheVariants as refused
use Rattle.depot_model.specs.checks.Checks.{Setting, Given, given_statement, given_proof, given_value, answer_to, growth}
use Rattle.depot_model.specs.updates.Conviction.{proof_of}
use Rattle.depot_model.specs.lists.Items.{AreItemsOf}
use Rattle.depot_model.specs.journals.Journal.{foreign}
use Rattle.depot_model.specs.checks.Limits.{IsCutShort}
use Rattle.depot_model.specs.lists.Lists.{IsIn}
use Rattle.depot_model.specs.updates.Order.{parents}
use Rattle.depot_model.specs.checks.Room.{full_by}
use Rattle.depot_model.specs.texts.Roster.{Verifies}
use Rattle.depot_model.specs.checks.Taking.{OfGiven}
use Rattle.depot_model.specs.texts.Texts.{signed, proof}
use Rattle.depot_kept.specs.declared.seen_statements.Found.{Found}
use Rattle.depot_graph.specs.UpdateRows.{IsJoinedRow}
use Rattle.depot_accept.specs.CheckResults.{IsChecked, IsNew}
use Rattle.depot_accept.specs.StateView.{View, IsStateOf, setting}
use Rattle.depot_accept.specs.declared.answer.CheckError.{CheckError}
use Rattle.depot_accept.specs.declared.answer.Parents.{Parents}
use Rattle.depot_accept.specs.declared.answer.Pass.{Pass}

-- ---- deciding

-- the answer to what is given, and what the journal grows by where there is room
pub record IsDecided (here : Setting) (J : List Record) (x : Given) (answer : Result Taken Check) (new : List Record) : Type 0 where
  pub is : answer_to here J x ≡ answer
  pub grows : growth here J x ≡ new

-- The same for a text of a form. A text of another form is refused at its first fault, and nothing grows.
abbrev pub Decides : {V : Type 0} → Closed V → (V → Given) → Setting → List Record → List ℕ → Result Taken Check → List Record → Type 0
Decides f give here J text (Err (check.IllFormed at)) new = f.fault text at × (new ≡ [])
Decides f give here J text answer new = OfGiven f give text (λ x. IsDecided here J x answer new)

abbrev pub DecidesStatement : Setting → List Record → List ℕ → Result Taken Check → List Record → Type 0
DecidesStatement = Decides (closing signed) (λ s. given_statement s)

abbrev pub DecidesProof : Setting → List Record → List ℕ → Result Taken Check → List Record → Type 0
DecidesProof = Decides (closing proof) (λ p. given_proof p)

abbrev pub DecidesValue : Setting → List Record → List ℕ → Result Taken Check → List Record → Type 0
DecidesValue = Decides (rest_of MOST_VALUE) (λ v. given_value v)

-- the decision on a proof: this is answered and nothing grows, or without an answer it is new, and the journal grows by
-- it
abbrev pub IsSettled : Setting → List Record → Proof → Option (Result Taken Check) → Type 0
IsSettled here J p (Some answer) = IsDecided here J (given_proof p) answer []
IsSettled here J p None = IsDecided here J (given_proof p) (Ok New) (Conviction p ∷ [])

-- the statement that was found is kept, and the conviction by it comes first in what the journal grows by
pub record IsDueBy (here : Setting) (J : List Record) (s : Signed) (found : Found) : Type 0 where
  pub kept : Signed
  pub more : List Record
  pub known : slice_get (foreign J) found.index ≡ Some kept
  pub first : growth here J (given_statement s) ≡ Conviction (proof_of found.kind kept s) ∷ more

-- where parents are given, their row is the joined one of their items
abbrev pub AreJoined : List Update → Option Parents → Type 0
AreJoined us None = Unit {0}
AreJoined us (Some p) = IsJoinedRow us p.items.items p.row.items

-- An update comes with its parents' items, and their joined row.
pub record ComesWithRow (us : List Update) (u : Update) (given : Option Parents) : Type 0 where
  pub behind : Parents
  pub is : given ≡ Some behind
  pub items : AreItemsOf us (parents u) behind.items.items
  pub row : IsJoinedRow us behind.items.items behind.row.items

-- so does each update of another among these records
abbrev pub ComeWithRow : List Update → List Record → Option Parents → Type 0
ComeWithRow us new given = (s : Signed) (u : Update) → IsIn (Foreign s) new → s.statement ≡ statements.Update u → ComesWithRow us u given

-- ---- by a state, whatever journal it is the state of

abbrev pub DecidesByState : {S : Type 0} → Verifies → View S → Given → Result Taken Check → List Record → Type 0
DecidesByState verifies v x answer new = (J : List Record) → IsStateOf J v → IsDecided (setting verifies v) J x answer new

-- of a statement of which the checks say this
abbrev pub DecidesChecked : {S : Type 0} → Verifies → View S → Signed → Result Pass CheckError → Result Taken Check → List Record → Type 0
DecidesChecked verifies v s checked answer new = (J : List Record) → IsStateOf J v → IsChecked (setting verifies v) J s checked → IsDecided (setting verifies v) J (given_statement s) answer new

-- of a new one, before which the conviction by this one is due
abbrev pub DecidesNew : {S : Type 0} → Verifies → View S → Signed → Option Found → Result Taken Check → List Record → Type 0
DecidesNew verifies v s found answer new = (J : List Record) → IsStateOf J v → IsNew (setting verifies v) J s found → IsDecided (setting verifies v) J (given_statement s) answer new

-- ---- what comes of it

-- the journal has grown by these, for which there was room
abbrev pub HasGrown : ℕ → List Record → List Record → List Record → Type 0
HasGrown me J new after = (full_by me J new ≡ None) × (after ≡ J ++ new)

-- or this limit was in the way, and it is unchanged
abbrev pub HadNoRoom : ℕ → List Record → List Record → Full → List Record → Type 0
HadNoRoom me J new full after = (full_by me J new ≡ Some full) × (after ≡ J)

-- the answer as it is given, a failed check as a refusal
abbrev pub AnswersAs : Result Taken Check → Result Taken TakeError → Type 0
AnswersAs (Ok taken) result = result ≡ Ok taken
AnswersAs (Err c) result = result ≡ Err (refused.Refused c)

-- A decision is carried out: its growth is appended where there is room, and its answer given.
abbrev pub IsCarriedOut : ℕ → List Record → Result Taken Check → List Record → Result Taken TakeError → List Record → Type 0
IsCarriedOut me J answer new (Ok taken) then = (answer ≡ Ok taken) × HasGrown me J new then
IsCarriedOut me J answer new (Err refused.Memory) then = then ≡ J
IsCarriedOut me J answer new (Err refused.Disk) then = (full_by me J new ≡ None) × IsCutShort J new then
IsCarriedOut me J answer new (Err refused.Stopped) then = ⊥
IsCarriedOut me J answer new (Err (refused.Full full)) then = HadNoRoom me J new full then
IsCarriedOut me J answer new (Err (refused.Refused c)) then = (answer ≡ Err c) × HasGrown me J new then
