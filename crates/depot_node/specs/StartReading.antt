-- What comes of records that are read one after another.
use Rattle.std.specs.Prelude.{◌≡◌, ◌≢◌, ℕ, List, [], ◌∷◌, ◌++◌, length, map, false, IsTrue, Result, IsErrAnd, IsErrOf}
use Rattle.depot_base.specs.Calls.{FailsAmong, made}
use Rattle.depot_base.specs.Disk.{LeavesOnly}
use Rattle.depot_base.specs.declared.record.Record.{Record}
use Rattle.depot_model.specs.checks.Checks.{Setting}
use Rattle.depot_model.specs.journals.JournalCalls.{IsJournalCall}
use Rattle.depot_model.specs.journals.Lawful.{IsLawful}
use Rattle.depot_model.specs.checks.RecordFaults.{AreTextsOf, IsFault, HaveFaultAt}
use Rattle.depot_model.specs.texts.Records.{text_of_record}
use Rattle.depot_model.specs.journals.Stops.{LeavesAll, calls_to_record}
use Rattle.depot_model.specs.texts.Texts.{hash_of_roster}
use Rattle.depot_outside.specs.declared.disk.Disk.{Ghosts}
use Rattle.depot_node.specs.Holdings.{Holding, IsWhole, journal_on, with_records}
use Rattle.depot_node.specs.Starting.{AreNotRead, LeavesFile, LeavesNew, StartLeaves, birth_after, started}
use Rattle.depot_node.specs.declared.start_error.StartError.{StartError}
use Rattle.depot_node.specs.declared.start_error.StartError.TheVariants as stopped

-- the first record that wasn't read is read now: it follows the others, which stay lawful, and nothing was done to the
-- disk
pub record IsReadOn {D : Type 0} (here : Setting) (old new : Holding D) : Type 0 where
  pub one : Record
  pub text : old.unread ≡ text_of_record one ∷ new.unread
  pub is : new ≡ with_records old (old.records ++ one ∷ []) new.unread
  pub lawful : IsLawful here (old.records ++ one ∷ [])

-- what a refusal says of the first of some texts after a lawful journal
abbrev pub IsNextWrong : Setting → List Record → List (List ℕ) → StartError → Type 0
IsNextWrong here J texts stopped.Memory = Unit {0}
IsNextWrong here J texts (stopped.NotLawful place f) = (place ≡ length J) × ((text : List ℕ) × ((rest : List (List ℕ)) × ((texts ≡ text ∷ rest) × IsFault here J text f)))
IsNextWrong here J texts e = ⊥

-- what a refusal says of all of them
abbrev pub AreWrong : Setting → List (List ℕ) → StartError → Type 0
AreWrong here texts stopped.Memory = Unit {0}
AreWrong here texts (stopped.NotLawful place f) = HaveFaultAt here texts place f
AreWrong here texts e = ⊥

-- what a refusal says of a birth that comes first
abbrev pub IsOtherBirth : Setting → ℕ → List ℕ → StartError → Type 0
IsOtherBirth here node roster (stopped.OtherNode other) = (other ≡ node) × (node ≢ here.me)
IsOtherBirth here node roster (stopped.OtherRoster kept given) = (node ≡ here.me) × ((kept ≡ roster) × ((given ≡ hash_of_roster here.listed) × (kept ≢ given)))
IsOtherBirth here node roster e = ⊥

-- and of the texts that begin with it
abbrev pub AreOther : Setting → List (List ℕ) → StartError → Type 0
AreOther here texts stopped.Memory = Unit {0}
AreOther here texts (stopped.OtherNode node) = AreNotRead here texts (stopped.OtherNode node)
AreOther here texts (stopped.OtherRoster kept given) = AreNotRead here texts (stopped.OtherRoster kept given)
AreOther here texts e = ⊥

-- ---- all of them

-- The records of a journal were read, or it got its birth: all are read, they are on the disk, and these calls were
-- made on it for that.
pub record IsFilled {D : Type 0} (g : Ghosts D) (here : Setting) (old new : Holding D) : Type 0 where
  pub records : (J : List Record) × (AreTextsOf here J old.unread × (new.records ≡ started here J))
  pub whole : IsWhole new
  pub calls : (J : List Record) → old.unread ≡ map text_of_record J → g.after old.disk (made (calls_to_record J (birth_after here J))) new.disk
  pub stable : IsTrue (g.tells old.disk) → LeavesAll new.records false (g.may_leave new.disk)

-- They weren't, for this reason.
pub record IsNotFilled {D : Type 0} (g : Ghosts D) (here : Setting) (old new : Holding D) (e : StartError) : Type 0 where
  pub wrong : AreNotRead here old.unread e
  pub unchanged : LeavesFile e → new.disk ≡ old.disk
  -- unless the disk failed, no crash image has a birth
  pub unborn : e ≢ stopped.Disk → IsTrue (g.tells old.disk) → LeavesOnly g.moment g.left_since old.disk new.disk (LeavesNew [] (old.unread ≡ []) (g.may_leave old.disk))
  -- where it failed, one of these calls did
  pub failing : e ≡ stopped.Disk → (J : List Record) → old.unread ≡ map text_of_record J → FailsAmong g.after old.disk new.disk (calls_to_record J (birth_after here J))

-- Whatever is answered: the disk's bytes are visible as before, and each crash image is one that was possible before,
-- or, where there was no record, none or the birth alone.
pub record IsDiskFilled {D : Type 0} (g : Ghosts D) (here : Setting) (old new : Holding D) : Type 0 where
  pub told : g.tells new.disk ≡ g.tells old.disk
  pub any_moment : IsTrue (g.tells old.disk) → LeavesOnly g.moment g.left_since old.disk new.disk (StartLeaves here (old.unread ≡ []) (g.may_leave old.disk))

-- the call was asked to append this birth, and answered so; after each error but Disk it isn't appended
abbrev pub IsBirthCall : {D : Type 0} → Ghosts D → Holding D → Holding D → List Record → Result (Unit {0}) StartError → Type 0
IsBirthCall g old new birth result = IsJournalCall (journal_on g) old new birth ⊥ (IsErrOf result stopped.Disk) (IsErrAnd result (λ e. e ≢ stopped.Disk))
