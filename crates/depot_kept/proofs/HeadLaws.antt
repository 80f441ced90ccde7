-- The newest links of marks, with more of them.
use Rattle.std.proofs.Common.{◌≡◌, ℕ, zero, suc, ◌+◌, ◌<◌, List, [], ◌∷◌, ◌++◌, length, take, get_or, Bool, true, false, cond, Option, Some, None, refl, sym, ap, ◌∙◌, if◌then◌else◌}
use Rattle.depot_base.proofs.GeneralLaws.{take_next}
use Rattle.depot_kept.specs.declared.marks.StatementMark.{StatementMark}
use Rattle.depot_kept.specs.declared.heads.Fresh.{Fresh}
use Rattle.depot_kept.specs.Links.{same_mark}
use Rattle.depot_kept.specs.Heads.{newest_of}
use Rattle.depot_kept.specs.Settled.{settled}
use Rattle.depot_kept.specs.declared.settled.Settled.{Settled}

-- ---- one more

-- a link after the others is the newest of its mark
pub newest_pushed : (before : Option ℕ) (fs : List Fresh) (f : Fresh) (mark : StatementMark) → newest_of before (fs ++ f ∷ []) mark ≡ (if same_mark f.mark mark then Some f.link else newest_of before fs mark)
newest_pushed before [] f mark = refl
newest_pushed before (g ∷ fs) f mark = newest_pushed (if same_mark g.mark mark then Some g.link else before) fs f mark

-- what is put into the map is what is looked at there
pub settled_more : (old mid new : Settled) (fs : List Fresh) (i : ℕ) (f : Fresh) → i < length fs → f ≡ get_or fs i f → ((mark : StatementMark) → settled mid mark ≡ newest_of (settled old mark) (take i fs) mark) → ((other : StatementMark) → settled new other ≡ (if same_mark f.mark other then Some f.link else settled mid other))
    → (mark : StatementMark) → settled new mark ≡ newest_of (settled old mark) (take (i + 1) fs) mark
settled_more old mid new fs i f low is so_far updates mark =
    let front = take_next fs i f low is in
    updates mark
    ∙ ap (λ (o : Option ℕ). cond (same_mark f.mark mark) (Some f.link) o) (so_far mark)
    ∙ sym (newest_pushed (settled old mark) (take i fs) f mark)
    ∙ ap (λ (gs : List Fresh). newest_of (settled old mark) gs mark) (sym front)

-- the newest of the first of them and one more
pub newest_more : (before : Option ℕ) (fs : List Fresh) (i : ℕ) (f : Fresh) (mark : StatementMark) (newest new : Option ℕ) → i < length fs → f ≡ get_or fs i f → newest ≡ newest_of before (take i fs) mark → new ≡ (if same_mark f.mark mark then Some f.link else newest)
    → new ≡ newest_of before (take (i + 1) fs) mark
newest_more before fs i f mark newest new low is so_far one =
    let front = take_next fs i f low is in
    one ∙ ap (λ (o : Option ℕ). cond (same_mark f.mark mark) (Some f.link) o) so_far ∙ sym (newest_pushed before (take i fs) f mark) ∙ ap (λ (gs : List Fresh). newest_of before gs mark) (sym front)

-- to put the first of them in twice is to do it once
twice : (before : Option ℕ) (fs : List Fresh) (i : ℕ) (mark : StatementMark) → newest_of (newest_of before (take i fs) mark) fs mark ≡ newest_of before fs mark
twice before [] zero mark = refl
twice before [] (suc i) mark = refl
twice before (f ∷ fs) zero mark = refl
twice before (f ∷ fs) (suc i) mark = by_test (same_mark f.mark mark) (twice before fs i mark)
  where
    by_test : (b : Bool) → newest_of (newest_of before (take i fs) mark) fs mark ≡ newest_of before fs mark
        → newest_of (cond b (Some f.link) (newest_of (cond b (Some f.link) before) (take i fs) mark)) fs mark ≡ newest_of (cond b (Some f.link) before) fs mark
    by_test true rest = refl
    by_test false rest = rest

-- so a map with the first of them still gives the same
pub same_with_first : (old mid new : Settled) (fs : List Fresh) (i : ℕ) → ((mark : StatementMark) → settled mid mark ≡ newest_of (settled old mark) (take i fs) mark) → ((other : StatementMark) → settled new other ≡ settled mid other)
    → (mark : StatementMark) → newest_of (settled new mark) fs mark ≡ newest_of (settled old mark) fs mark
same_with_first old mid new fs i so_far same mark =
    ap (λ (o : Option ℕ). newest_of o fs mark) (same mark ∙ so_far mark) ∙ twice (settled old mark) fs i mark

-- nothing is the newest in an empty map
pub none_newest : (map : Settled) (fs : List Fresh) → ((mark : StatementMark) → settled map mark ≡ None) → fs ≡ [] → (mark : StatementMark) → newest_of (settled map mark) fs mark ≡ None
none_newest map fs empty none mark = rw none (empty mark)

pub ruleset head_laws = (newest_pushed, none_newest)
