-- A start: what it leaves on the disk, and what its refusals say.
use Rattle.std.proofs.Common.{◌≡◌, ◌≢◌, ℕ, List, [], ◌∷◌, ◌++◌, map, Result, Ok, Err, refl, sym, ap, subst, ◌∙◌, arith, inl, inr}
use Rattle.std.specs.Result.{IfErr}
use Rattle.std.proofs.lemmas.List.{append-nil}
use Rattle.depot_base.specs.Disk.{LeavesOnly}
use Rattle.depot_base.specs.File as files
use Rattle.depot_base.specs.File.{IsFileOf}
use Rattle.depot_base.specs.declared.record.Record.{Record}
use Rattle.depot_base.specs.declared.record.Record.TheVariants.{Birth}
use Rattle.depot_model.specs.checks.Checks.{Setting}
use Rattle.depot_model.specs.texts.Records.{IsRecord, text_of_record}
use Rattle.depot_model.specs.checks.RecordFaults.{AreTextsOf}
use Rattle.depot_node.specs.StartReading.{AreOther, AreWrong, IsOtherBirth}
use Rattle.depot_node.specs.Starting.{AreNotRead, AreOwn, BeginWithBirth, IsDiskFault, IsStartedFrom, LeavesFile, LeavesNew, started}
use Rattle.depot_node.specs.declared.start_error.StartError.{StartError}
use Rattle.depot_node.specs.declared.start_error.StartError.TheVariants as refused

-- ---- the crash images

-- of a journal that is started: a file of at most one byte has no records, as the one before it
journal_leaves : (new : List Record) (file : List ℕ) (before : List ℕ → Type 0) (image : List ℕ) → files.StartLeavesFile before file image → LeavesNew new (IsFileOf file []) before image
journal_leaves new file before image (inl might) = inl might
journal_leaves new file before image (inr short) = inr (inl (short.0, refl), record { count = 0; has = inl (short.1, refl) })

module _ {D : Type 0} (moment : D → ℕ) (left_since : D → ℕ → List ℕ → Type 0) (new : List Record) (file : List ℕ) (before : List ℕ → Type 0) where
  -- a journal was started, and that was all
  pub left_by_journal : (disk end : D) → LeavesOnly moment left_since disk end (files.StartLeavesFile before file) → LeavesOnly moment left_since disk end (LeavesNew new (IsFileOf file []) before)
  left_by_journal disk end leaves = record {
    later = leaves.later;
    each = λ image left. journal_leaves new file before image (leaves.each image left);
    before = λ t image at left. elim (leaves.before t image at left) [
      | inl past ↦ inl past
      | inr now ↦ inr (journal_leaves new file before image now)
    ];
  }

  -- the same between three moments
  pub left_by_both : (texts : List (List ℕ)) (disk mid end : D) (between : List ℕ → Type 0) → IsFileOf file texts → ((image : List ℕ) → between image → left_since mid (moment disk) image)
      → LeavesOnly moment left_since disk mid (LeavesNew new (IsFileOf file []) before) → LeavesOnly moment left_since mid end (LeavesNew new (texts ≡ []) between) → LeavesOnly moment left_since disk end (LeavesNew new (IsFileOf file []) before)
  left_by_both texts disk mid end between has counts first second = record {
    later = omega (arith, first.later, second.later);
    each = λ image left. elim (second.before (moment disk) image first.later left) [
      | inl earlier ↦ first.each image earlier
      | inr now ↦ later image now
    ];
    before = λ t image at left. elim (second.before t image (omega (arith, at, first.later)) left) [
      | inl earlier ↦ first.before t image at earlier
      | inr now ↦ inr (later image now)
    ];
  } where
    later : (image : List ℕ) → LeavesNew new (texts ≡ []) between image → LeavesNew new (IsFileOf file []) before image
    later image (inl might) = first.each image (counts image might)
    later image (inr birth) = inr (subst (IsFileOf file) birth.0 has, birth.1)

-- ---- what refusals say

-- of the texts
pub reading_fault : (here : Setting) (told : Type 0) (file : List ℕ) (texts : List (List ℕ)) (e : StartError) → (told → IsFileOf file texts) → AreNotRead here texts e → IsDiskFault here told file e
reading_fault here told file texts refused.Memory has w = tt
reading_fault here told file texts refused.Disk has w = tt
reading_fault here told file texts (refused.OtherNode node) has w = (w.0, λ is. (texts, (has is, w.1)))
reading_fault here told file texts (refused.OtherRoster kept given) has w = (w.0, (w.1.0, λ is. (texts, (has is, w.1.1))))
reading_fault here told file texts (refused.NotLawful place f) has w = λ is. (texts, (has is, w))
reading_fault here told file texts e has w = absurd w

-- a text that is a birth's begins with it
begins : (text : List ℕ) (item : Record) (node : ℕ) (roster : List ℕ) (rest : List (List ℕ)) → IsRecord item → text ≡ text_of_record item → item ≡ Birth node roster → BeginWithBirth (text ∷ rest) node roster
begins text item node roster rest fits is birth = record { rest = rest; fits = subst IsRecord birth fits; is = ap (λ (t : List ℕ). t ∷ rest) (is ∙ ap text_of_record birth) }

-- of a birth of another node or roster that comes first
pub other_begins : (here : Setting) (text : List ℕ) (item : Record) (node : ℕ) (roster : List ℕ) (result : Result (Unit {0}) StartError) → IsRecord item → text ≡ text_of_record item → item ≡ Birth node roster
    → IfErr result (IsOtherBirth here node roster) → IfErr result (λ e. (rest : List (List ℕ)) → AreOther here (text ∷ rest) e)
other_begins here text item node roster (Ok done) fits is birth other = tt
other_begins here text item node roster (Err (refused.OtherNode by)) fits is birth other = λ rest. (
  subst (λ (n : ℕ). n ≢ here.me) (sym other.0) other.1,
  (roster, subst (λ (n : ℕ). BeginWithBirth (text ∷ rest) n roster) (sym other.0) (begins text item node roster rest fits is birth)),
)
other_begins here text item node roster (Err (refused.OtherRoster kept given)) fits is birth (mine, (same, (right, apart))) = λ rest. (
  right,
  (apart, subst (λ (r : List ℕ). BeginWithBirth (text ∷ rest) here.me r) (sym same) (subst (λ (n : ℕ). BeginWithBirth (text ∷ rest) n roster) mine (begins text item node roster rest fits is birth))),
)
other_begins here text item node roster (Err e) fits is birth other = absurd other

-- such a birth is a reason not to read the texts
pub other_not_read : (here : Setting) (texts : List (List ℕ)) (e : StartError) → AreOther here texts e → AreNotRead here texts e
other_not_read here texts refused.Memory other = tt
other_not_read here texts (refused.OtherNode node) other = other
other_not_read here texts (refused.OtherRoster kept given) other = other
other_not_read here texts e other = absurd other

-- it isn't the disk's fault
pub other_is_no_fault : (here : Setting) (texts : List (List ℕ)) (e : StartError) → AreOther here texts e → e ≢ refused.Disk
other_is_no_fault here texts e other disk = subst (λ (x : StartError). AreOther here texts x) disk other

-- so is a record that is wrong, where no such birth comes first
pub wrong_not_read : (here : Setting) (texts : List (List ℕ)) (result : Result (Unit {0}) StartError) → AreOwn here texts → IfErr result (AreWrong here texts) → IfErr result (AreNotRead here texts)
wrong_not_read here texts (Ok done) own wrong = tt
wrong_not_read here texts (Err refused.Memory) own wrong = tt
wrong_not_read here texts (Err (refused.NotLawful place f)) own wrong = record { own = own; at = wrong }
wrong_not_read here texts (Err e) own wrong = absurd wrong

-- where it leaves the file, there are texts
pub fault_has_text : (here : Setting) (texts : List (List ℕ)) (e : StartError) → AreNotRead here texts e → LeavesFile e → texts ≢ []
fault_has_text here texts refused.Memory w leaves none = leaves
fault_has_text here texts refused.Disk w leaves none = leaves
fault_has_text here texts (refused.OtherNode node) w leaves none = let some = w.1.1.is in absurd cc
fault_has_text here texts (refused.OtherRoster kept given) w leaves none = let some = w.1.1.is in absurd cc
fault_has_text here texts (refused.NotLawful place f) w leaves none = no_text w.at.before w.at.text w.at.after (sym w.at.parts ∙ none) where
  no_text : (J : List Record) (text : List ℕ) (after : List (List ℕ)) → map text_of_record J ++ text ∷ after ≡ [] → ⊥
  no_text [] text after is = cc
  no_text (r ∷ J) text after is = cc
fault_has_text here texts e w leaves none = w

-- ---- what it starts

-- a journal with a record gets no birth
started_as_read : (here : Setting) (J : List Record) (text : List ℕ) (rest : List (List ℕ)) → AreTextsOf here J (text ∷ rest) → J ≡ started here J
started_as_read here [] text rest t = let never = t.are in absurd cc
started_as_read here (r ∷ J) text rest t = sym (append-nil (r ∷ J))

-- so it is what is started from these texts
pub read_is_started : (here : Setting) (J : List Record) (texts rest : List (List ℕ)) (text : List ℕ) → texts ≡ text ∷ rest → AreTextsOf here J texts → (K : List Record) × (AreTextsOf here K texts × (J ≡ started here K))
read_is_started here J texts rest text some t = (J, (t, started_as_read here J text rest (subst (AreTextsOf here J) some t)))

-- from the texts of a file
pub started_from : (here : Setting) (file : List ℕ) (texts : List (List ℕ)) (records : List Record) → ((J : List Record) × (AreTextsOf here J texts × (records ≡ started here J))) → IsFileOf file texts → IsStartedFrom here file records
started_from here file texts records s has = record { journal = s.0; lawful = s.1.0.lawful; read = subst (IsFileOf file) s.1.0.are has; is = s.1.1 }
