-- The crash images of a journal at rest, and what a later start makes of it.
use Rattle.std.proofs.Common.{◌≡◌, inl, inr, ℕ, List, [], ◌∷◌, ◌++◌, take, get_or, Bool, true, refl, sym, ◌∙◌, ap, subst, append-nil, append_assoc}
use Rattle.std.proofs.lemmas.List.{take_more}
use Rattle.depot_base.specs.Disk.{Only}
use Rattle.depot_base.specs.File.{AreWithinLimits, AreBodiesCutShort, IsDamagedAt, IsFileOf, StandsFor}
use Rattle.depot_journal.specs.Stable.{BeginsWithAll, HasAllOf, LeavesAllBodies}
use Rattle.depot_journal.specs.WriteSteps.{StandsTo}
use Rattle.depot_journal.proofs.OneList.{not_damaged, one_list}
use Rattle.depot_journal.proofs.Walk.{stands_of}

-- the file has these records and no more
pub all_of : (bodies : List (List ℕ)) (stopped : Bool) (file : List ℕ) → IsFileOf file bodies → HasAllOf bodies stopped file
all_of bodies stopped file has = record { more = []; has = subst (IsFileOf file) (sym (append-nil bodies)) has; none = λ _. refl }

-- nothing is unsynced
pub rests : (file : List ℕ) (bodies : List (List ℕ)) (end : ℕ) (stopped : Bool) (images : List ℕ → Type 0) → StandsTo file bodies end → AreWithinLimits bodies → Only file images → LeavesAllBodies bodies stopped images
rests file bodies end stopped images stands within only = λ image left. all_of bodies stopped image (subst (λ (f : List ℕ). IsFileOf f bodies) (sym (only image left)) (inr (stands_of file bodies end stands, within)))

-- the disk failed on one of them
pub one_more_at_most : (bodies new kept : List (List ℕ)) (told : Type 0) (images : List ℕ → Type 0) → AreBodiesCutShort bodies new kept told images → told → LeavesAllBodies kept true images
one_more_at_most bodies new kept told images cut holds = λ image left. elim (cut.stable holds image left) [
  | inl has ↦ all_of kept true image has
  | inr has ↦ record {
    more = get_or new cut.count [] ∷ [];
    has = subst (IsFileOf image) (ap (λ (l : List (List ℕ)). bodies ++ l) (take_more new cut.count [] cut.fewer) ∙ sym (append_assoc bodies (take cut.count new) (get_or new cut.count [] ∷ [])) ∙ ap (λ (l : List (List ℕ)). l ++ get_or new cut.count [] ∷ []) (sym cut.front)) has;
    none = λ runs. absurd cc;
  }
]

-- ---- a start

-- ---- a later start

pub stands_undamaged : (file : List ℕ) (bodies : List (List ℕ)) (at : ℕ) → StandsFor file bodies → AreWithinLimits bodies → IsDamagedAt file at → ⊥
stands_undamaged file bodies at stands within = not_damaged file bodies at (inr (stands, within))

pub stands_read : (file : List ℕ) (bodies read : List (List ℕ)) → StandsFor file bodies → AreWithinLimits bodies → IsFileOf file read → read ≡ bodies
stands_read file bodies read stands within is = one_list file read bodies is (inr (stands, within))

pub left_undamaged : (bodies : List (List ℕ)) (stopped : Bool) (file : List ℕ) (at : ℕ) → HasAllOf bodies stopped file → IsDamagedAt file at → ⊥
left_undamaged bodies stopped file at all = not_damaged file (bodies ++ all.more) at all.has

pub left_read : (bodies read : List (List ℕ)) (stopped : Bool) (file : List ℕ) → HasAllOf bodies stopped file → IsFileOf file read → BeginsWithAll bodies stopped read
left_read bodies read stopped file all is = (all.more, one_list file read (bodies ++ all.more) is all.has, all.none)
