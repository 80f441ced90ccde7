-- The records of a journal are read, or it gets its birth: what that leaves.
use Rattle.std.proofs.Common.{◌≡◌, ◌≢◌, ℕ, Bool, true, false, IsTrue, List, [], ◌∷◌, ◌++◌, map, Result, Ok, Err, refl, sym, ap, subst, ◌∙◌, arith, inl, inr}
use Rattle.std.specs.Prelude.{IfErr, OnOk}
use Rattle.depot_base.specs.Calls.{FailsAmong, made}
use Rattle.depot_base.specs.Disk.{LeavesOnly}
use Rattle.depot_base.specs.declared.key.PublicKey.{PublicKey}
use Rattle.depot_base.specs.declared.key.RosterEntry.{RosterEntry}
use Rattle.depot_base.specs.declared.record.Record.{Record}
use Rattle.depot_journal.specs.declared.journal_error.JournalError.{JournalError}
use Rattle.depot_journal.specs.declared.journal_error.JournalError.TheVariants as journal_error
use Rattle.depot_model.specs.checks.Checks.{Setting}
use Rattle.depot_model.specs.journals.JournalCalls.{IsJournalCall}
use Rattle.depot_model.specs.checks.RecordFaults.{AreTextsOf}
use Rattle.depot_model.specs.texts.Records.{text_of_record}
use Rattle.depot_model.specs.journals.Stops.{HasFront, LeavesAll, calls_to_record}
use Rattle.depot_model.proofs.of_journals.JournalCallLaws.{renamed_call}
use Rattle.depot_laws.proofs.lists.Splits.{lawful_none}
use Rattle.depot_outside.specs.declared.disk.Disk.{Ghosts}
use Rattle.depot_node.specs.Holdings.{Holding, IsWhole, journal_on}
use Rattle.depot_node.specs.StartReading.{AreOther, AreWrong, IsBirthCall, IsFilled, IsNotFilled}
use Rattle.depot_node.specs.Starting.{AreNotRead, AreOwn, IsDiskThen, IsHandedBack, IsKeyFault, LeavesFile, LeavesNew, StartLeaves, birth_after, of_journal, started}
use Rattle.depot_node.specs.StoreCalls.{IsWriteCall}
use Rattle.depot_node.specs.declared.commit.WriteError.{WriteError}
use Rattle.depot_node.specs.declared.commit.WriteError.TheVariants as unwritten
use Rattle.depot_node.specs.declared.start_error.StartError.{StartError}
use Rattle.depot_node.specs.declared.start_error.StartError.TheVariants as refused
use Rattle.depot_node.proofs.StartCalls.{no_birth}
use Rattle.depot_node.proofs.Starts.{other_is_no_fault, other_not_read, read_is_started, wrong_not_read}

-- ---- a birth is appended

abbrev pub birth_answer : Result (Unit {0}) WriteError → Result (Unit {0}) StartError
birth_answer (Ok done) = Ok done
birth_answer (Err unwritten.Memory) = Err refused.Memory
birth_answer (Err unwritten.Disk) = Err refused.Disk

pub birth_call : {D : Type 0} (g : Ghosts D) (old new : Holding D) (appends birth : List Record) (result : Result (Unit {0}) WriteError) → appends ≡ birth → IsWriteCall g old new appends result → IsBirthCall g old new birth (birth_answer result)
birth_call g old new appends birth result same call = subst (λ (rs : List Record). IsBirthCall g old new rs (birth_answer result)) same (by_answer result call) where
  by_answer : (r : Result (Unit {0}) WriteError) → IsWriteCall g old new appends r → IsBirthCall g old new appends (birth_answer r)
  by_answer (Ok done) c = renamed_call (λ s. s, λ s. s) (λ e. cc, λ e. cc) (λ e. absurd e) c
  by_answer (Err unwritten.Memory) c = renamed_call (λ s. s, λ s. s) (λ e. cc, λ e. cc) (λ e. refl) c
  by_answer (Err unwritten.Disk) c = renamed_call (λ s. s, λ s. s) (λ e. refl, λ e. refl) (λ e. absurd (e refl)) c

not_true : (b : Bool) → (b ≡ true → ⊥) → b ≡ false
not_true true never = absurd (never refl)
not_true false never = refl

-- it runs after a call in which the disk didn't fail
pub runs_after : {D : Type 0} (g : Ghosts D) (old new : Holding D) (appends : List Record) {failed nothing : Type 0} → IsJournalCall (journal_on g) old new appends ⊥ failed nothing → old.stopped ≡ false → (failed → ⊥) → new.stopped ≡ false
runs_after g old new appends call ran well = not_true new.stopped (λ now. elim (call.stops.left.0 now) [ inl before ↦ (let no = sym before ∙ ran in absurd cc) | inr is ↦ well is ])

module _ {D : Type 0} (g : Ghosts D) (here : Setting) (old new : Holding D) where
  -- a crash image of it is one that was possible before, or a prefix of the birth
  fronts : (birth : List Record) → old.records ≡ [] → old.unread ≡ [] → LeavesOnly (λ (v : Holding D). g.moment v.disk) (λ (v : Holding D) (t : ℕ) (file : List ℕ). g.left_since v.disk t file) old new (HasFront old.records birth)
      → LeavesOnly g.moment g.left_since old.disk new.disk (LeavesNew birth (old.unread ≡ []) (g.may_leave old.disk))
  fronts birth none read l = record {
    later = l.later;
    each = λ image left. inr (read, subst (λ (J : List Record). HasFront J birth image) none (l.each image left));
    before = λ t image at left. elim (l.before t image at left) [
      | inl past ↦ inl past
      | inr front ↦ inr (inr (read, subst (λ (J : List Record). HasFront J birth image) none front))
    ];
  }

  pub birth_leaves : {failed nothing : Type 0} → old.stopped ≡ false → old.records ≡ [] → old.unread ≡ [] → IsJournalCall (journal_on g) old new (birth_after here []) ⊥ failed nothing
      → IsTrue (g.tells old.disk) → LeavesOnly g.moment g.left_since old.disk new.disk (StartLeaves here (old.unread ≡ []) (g.may_leave old.disk))
  birth_leaves ran none read call told = fronts (birth_after here []) none read (call.lasts.any_moment told ran)

  calls_birth : {failed nothing : Type 0} → old.records ≡ [] → old.unread ≡ [] → new.records ≡ started here [] → IsJournalCall (journal_on g) old new (birth_after here []) ⊥ failed nothing → (failed → ⊥)
      → (J : List Record) → old.unread ≡ map text_of_record J → g.after old.disk (made (calls_to_record J (birth_after here J))) new.disk
  calls_birth none read records call well [] is =
      subst (λ (J : List Record). g.after old.disk (made (calls_to_record J (birth_after here []))) new.disk) none (call.calls.whole well (birth_after here []) (records ∙ ap (λ (J : List Record). J ++ birth_after here []) (sym none)))
  calls_birth none read records call well (r ∷ J) is = let never = sym read ∙ is in absurd cc

  fails_birth : {failed nothing : Type 0} → old.records ≡ [] → old.unread ≡ [] → IsJournalCall (journal_on g) old new (birth_after here []) ⊥ failed nothing → failed
      → (J : List Record) → old.unread ≡ map text_of_record J → FailsAmong g.after old.disk new.disk (calls_to_record J (birth_after here J))
  fails_birth none read call is [] texts =
      let p = call.calls.part is in
      subst (λ (J : List Record). FailsAmong g.after old.disk new.disk (calls_to_record J (birth_after here []))) none (record { before = p.before; failing = p.failing; rest = p.rest; parts = p.parts; fails = p.fails })
  fails_birth none read call is (r ∷ J) texts = let never = sym read ∙ texts in absurd cc

  pub birth_fills : (result : Result (Unit {0}) StartError) → old.records ≡ [] → old.unread ≡ [] → OnOk result (new.records ≡ started here []) → OnOk result (IsWhole new) → IsBirthCall g old new (birth_after here []) result → OnOk result (IsFilled g here old new)
  birth_fills (Ok done) none read records whole call = record {
    records = ([], (record { lawful = lawful_none here; are = read }, records));
    whole = whole;
    calls = calls_birth none read records call (λ e. cc);
    stable = λ told. subst (λ (b : Bool). LeavesAll new.records b (g.may_leave new.disk)) whole.runs (call.lasts.stable (subst IsTrue (sym call.lasts.told) told));
  }
  birth_fills (Err e) none read records whole call = tt

  not_read : (e : StartError) → (LeavesFile e → ⊥) → AreNotRead here old.unread e
  not_read refused.Memory other = tt
  not_read refused.Disk other = tt
  not_read e other = absurd (other tt)

  pub birth_not_filled : (result : Result (Unit {0}) StartError) → old.stopped ≡ false → old.records ≡ [] → old.unread ≡ [] → IfErr result (λ e. LeavesFile e → ⊥) → IsBirthCall g old new (birth_after here []) result → IfErr result (IsNotFilled g here old new)
  birth_not_filled (Ok done) ran none read other call = tt
  birth_not_filled (Err e) ran none read other call = record {
    wrong = not_read e other;
    unchanged = λ leaves. absurd (other leaves);
    unborn = λ apart told. fronts [] none read ((call.idle apart).any_moment told ran);
    failing = λ is. fails_birth none read call (ap Err is);
  }

-- ---- nothing is done to the disk

-- so each crash image was possible before
pub left_alone : {D : Type 0} (g : Ghosts D) → ((d : D) (image : List ℕ) → g.left_since d (g.moment d) image → g.may_leave d image) → (d end : D) (new : List Record) (none : Type 0) → end ≡ d → LeavesOnly g.moment g.left_since d end (LeavesNew new none (g.may_leave d))
left_alone g only_now d end new none same = subst (λ (x : _). LeavesOnly g.moment g.left_since d x (LeavesNew new none (g.may_leave d))) (sym same)
    (record { later = omega arith; each = λ image left. inl (only_now d image left); before = λ t image at left. inl left })

-- the birth of another comes first
pub other_not_filled : {D : Type 0} (g : Ghosts D) → ((d : D) (image : List ℕ) → g.left_since d (g.moment d) image → g.may_leave d image) → (here : Setting) (v : Holding D) (text : List ℕ) (rest : List (List ℕ)) (e : StartError) → v.unread ≡ text ∷ rest → AreOther here (text ∷ rest) e → IsNotFilled g here v v e
other_not_filled g only_now here v text rest e next other = record {
  wrong = subst (λ (texts : List (List ℕ)). AreNotRead here texts e) (sym next) (other_not_read here (text ∷ rest) e other);
  unchanged = λ leaves. refl;
  unborn = λ apart told. left_alone g only_now v.disk v.disk [] (v.unread ≡ []) refl;
  failing = λ is. absurd (other_is_no_fault here (text ∷ rest) e other is);
}

-- all were read
pub read_fills : {D : Type 0} (g : Ghosts D) → ((d : D) → g.after d [] d) → (here : Setting) (old new : Holding D) (text : List ℕ) (rest : List (List ℕ)) (result : Result (Unit {0}) StartError) → old.unread ≡ text ∷ rest → new.disk ≡ old.disk → OnOk result (AreTextsOf here new.records old.unread)
    → OnOk result (IsWhole new) → OnOk result (IsTrue (g.tells new.disk) → LeavesAll new.records false (g.may_leave new.disk)) → OnOk result (IsFilled g here old new)
read_fills {D} g none here old new text rest (Ok done) next same read whole stable = record {
  records = read_is_started here new.records old.unread rest text next read;
  whole = whole;
  calls = no_birth g.after here old.disk new.disk old.unread rest text next (subst (λ (d : D). g.after old.disk [] d) (sym same) (none old.disk));
  stable = λ told. stable (subst (λ (d : D). IsTrue (g.tells d)) (sym same) told);
}
read_fills g none here old new text rest (Err e) next same read whole stable = tt

not_the_disk : (here : Setting) (texts : List (List ℕ)) (e : StartError) → AreWrong here texts e → e ≡ refused.Disk → ⊥
not_the_disk here texts e wrong is = subst (λ (x : StartError). AreWrong here texts x) is wrong

-- or one is wrong
pub wrong_not_filled : {D : Type 0} (g : Ghosts D) → ((d : D) (image : List ℕ) → g.left_since d (g.moment d) image → g.may_leave d image) → (here : Setting) (old new : Holding D) (result : Result (Unit {0}) StartError) → AreOwn here old.unread → new.disk ≡ old.disk → IfErr result (AreWrong here old.unread)
    → IfErr result (IsNotFilled g here old new)
wrong_not_filled g only_now here old new (Ok done) own same wrong = tt
wrong_not_filled g only_now here old new (Err e) own same wrong = record {
  wrong = wrong_not_read here old.unread (Err e) own wrong;
  unchanged = λ leaves. same;
  unborn = λ apart told. left_alone g only_now old.disk new.disk [] (old.unread ≡ []) same;
  failing = λ is. absurd (not_the_disk here old.unread e wrong is);
}

-- ---- a start that doesn't come to the disk

pub untouched_back : {D : Type 0} (g : Ghosts D) → ((d : D) (image : List ℕ) → g.left_since d (g.moment d) image → g.may_leave d image) → (here : Setting) (disk : D) (e : StartError) → e ≢ refused.Disk → IsHandedBack g here disk (record { error = e; disk = disk })
untouched_back g only_now here disk e apart = record {
  unchanged = λ leaves. refl;
  unborn = λ other told. left_alone g only_now disk disk [] _ refl;
  failing = λ is. absurd (apart is);
  cause = record { never_falls = omega arith; rose = λ is. absurd (apart is); only = λ less. absurd (omega (arith, less)) };
}

pub untouched_disk : {D : Type 0} (g : Ghosts D) → ((d : D) (image : List ℕ) → g.left_since d (g.moment d) image → g.may_leave d image) → (here : Setting) (disk : D) → IsDiskThen g here disk disk
untouched_disk g only_now here disk = record { same = refl; told = refl; any_moment = λ told. left_alone g only_now disk disk _ _ refl; faultless = λ w. (w, refl) }

pub key_is_no_disk : (listed : List RosterEntry) (me : ℕ) (key : PublicKey) (e : StartError) → IsKeyFault listed me key e → e ≢ refused.Disk
key_is_no_disk listed me key e fault is = subst (λ (x : StartError). IsKeyFault listed me key x) is fault

-- ---- of the journal's own errors

pub not_disk : (e : JournalError) → LeavesFile (of_journal e) → e ≢ journal_error.Disk
not_disk e leaves is = subst (λ (x : JournalError). LeavesFile (of_journal x)) is leaves
