-- Writes that are taken back.
use Rattle.std.proofs.Common.{◌≡◌, ◌≤◌, inl, inr, ℕ, ◌+◌, ◌-◌, min, max, List, [], ◌∷◌, ◌++◌, length, take, drop, reverse, refl, sym, ◌∙◌, ap, subst, arith, append_assoc, take-append-drop}
use Rattle.std.proofs.lemmas.List.{drop-drop, drop_all, drop_at, length-drop, length-take, reverse-append, take_all}
use Rattle.std.proofs.lemmas.Bool.{cases_lt}
use Rattle.std.proofs.lemmas.Grind.{common_steps}
use Rattle.depot_base.specs.Disk.{IsWritten}
use Rattle.std.proofs.Math.Seq.{take-append_seam}
use Rattle.depot_outside.specs.Images.{LeadTo, Moment, Written}
use Rattle.depot_outside.specs.StopImages.{Range, blanked, left_by, ranges}
use Rattle.depot_outside.specs.Undo.{AreInside, AreLogged, CanUndo, Fits, file_before, file_left, undone, written}
use Rattle.depot_outside.proofs.Written.{written_is_torn}
use Rattle.depot_outside.specs.declared.stops.Image.{Image}
use Rattle.depot_outside.specs.declared.stops.Image.TheVariants as image
use Rattle.depot_outside.specs.declared.undo.Replaced.{Replaced}

-- what was pushed last comes first
pub pushed : {X : Type 0} → (old new : List X) (x : X) → new ≡ old ++ x ∷ [] → reverse new ≡ x ∷ reverse old
pushed old new x is = ap reverse is ∙ reverse-append old (x ∷ [])

-- ---- what the log has

-- no write leaves a shorter file
before_long : (r : Replaced) (bytes file : List ℕ) → Fits r bytes file → length (file_before r bytes file) ≡ r.long
before_long r bytes file fits = grind (arith, common_steps, fits.start, fits.long, fits.inside)

wider : (n m : ℕ) (rs : List Range) → n ≤ m → AreInside n rs → AreInside m rs
wider n m [] h inside = tt
wider n m (r ∷ rs) h inside = (omega (arith, h, inside.0), wider n m rs h inside.1)

pub all_inside : (log : List Replaced) (bytes file : List ℕ) → CanUndo log bytes file → AreInside (length file) (written log)
all_inside [] bytes file can = tt
all_inside (r ∷ log) bytes file can =
    (can.0.reach, wider (length (file_before r bytes file)) (length file) (written log) (omega (arith, before_long r bytes file can.0, can.0.long)) (all_inside log (take r.start bytes) (file_before r bytes file) can.1))

pub can_undo : (writes : List Written) (log : List Replaced) (bytes file : List ℕ) → AreLogged writes log bytes file → CanUndo log bytes file
can_undo [] [] bytes file all = tt
can_undo [] (r ∷ log) bytes file all = absurd all
can_undo (w ∷ writes) [] bytes file all = absurd all
can_undo (w ∷ writes) (r ∷ log) bytes file all = (all.0.fits, subst (CanUndo log (take r.start bytes)) (sym all.0.is_before) (can_undo writes log (take r.start bytes) w.file all.1))

-- ---- what is taken back

undone_all : (synced : List ℕ) (writes : List Written) (log : List Replaced) (bytes file : List ℕ) → LeadTo synced writes file → AreLogged writes log bytes file → undone log bytes file ≡ synced
undone_all synced [] [] bytes file lead all = lead
undone_all synced [] (r ∷ log) bytes file lead all = absurd all
undone_all synced (w ∷ writes) [] bytes file lead all = absurd all
undone_all synced (w ∷ writes) (r ∷ log) bytes file lead all = ap (undone log (take r.start bytes)) all.0.is_before ∙ undone_all synced writes log (take r.start bytes) w.file lead.1 all.1

abbrev record_range : ℕ → ℕ → Range
record_range at count = record { at = at; count = count }

written_all : (writes : List Written) (log : List Replaced) (bytes file : List ℕ) → AreLogged writes log bytes file → written log ≡ ranges writes
written_all [] [] bytes file all = refl
written_all [] (r ∷ log) bytes file all = absurd all
written_all (w ∷ writes) [] bytes file all = absurd all
written_all (w ∷ writes) (r ∷ log) bytes file all =
    let rest = written_all writes log (take r.start bytes) w.file all.1 in
    let same : record_range r.at r.count ≡ record_range w.at w.count = ap (λ (n : ℕ). record_range n r.count) all.0.at ∙ ap (record_range w.at) all.0.count in
    ap (λ (one : Range). one ∷ written log) same ∙ ap (λ (l : List Range). record_range w.at w.count ∷ l) rest

pub left_is : (left : Image) (moment : Moment) (log : List Replaced) (bytes file : List ℕ) → LeadTo moment.synced moment.writes file → AreLogged moment.writes log bytes file → file_left left log bytes file ≡ left_by left moment file
left_is image.Synced moment log bytes file lead all = undone_all moment.synced moment.writes log bytes file lead all
left_is image.Written moment log bytes file lead all = refl
left_is image.Blanked moment log bytes file lead all = ap (λ (rs : List Range). blanked rs file) (written_all moment.writes log bytes file all)

-- ---- a write more

long_written : (old piece : List ℕ) (at : ℕ) → at ≤ length old → length (take at old ++ piece ++ drop (at + length piece) old) ≡ max (length old) (at + length piece)
long_written old piece at inside = grind (arith, common_steps)

-- the bytes after the range that were there before
behind_written : (old new piece : List ℕ) (at : ℕ) → at ≤ length old → IsWritten old at piece new
    → drop (at + length (take (length piece) (drop at old))) (take (length old) new) ≡ drop (at + length (take (length piece) (drop at old))) old
behind_written old new piece at inside put =
    let torn = written_is_torn old new piece at inside put in
    let many : length (take (length piece) (drop at old)) ≡ min (length piece) (length old - at) = length-take (length piece) (drop at old) ∙ ap (min (length piece)) (length-drop at old) in
    let long : length new ≡ max (length old) (at + length piece) = ap length put ∙ long_written old piece at inside in
    elim (cases_lt (length old) (at + length piece)) [
      | inl over ↦
          let end : at + length (take (length piece) (drop at old)) ≡ length old = omega (arith, many, over, inside) in
          drop_all (at + length (take (length piece) (drop at old))) (take (length old) new) (omega (arith, end, length-take (length old) new)) ∙ sym (drop_all (at + length (take (length piece) (drop at old))) old (omega (arith, end)))
      | inr short ↦
          let all : at + length (take (length piece) (drop at old)) ≡ at + length piece = omega (arith, many, short) in
          ap (drop (at + length (take (length piece) (drop at old)))) (take_all (length old) new (omega (arith, long, short)))
          ∙ ap (λ (n : ℕ). drop n new) all ∙ torn.after ∙ ap (λ (n : ℕ). drop n old) (sym all)
    ]

front_and_rest : (rest : List ℕ) (n : ℕ) → take n rest ++ drop (length (take n rest)) rest ≡ rest
front_and_rest rest n =
    let all : take n rest ++ drop n rest ≡ rest = take-append-drop n rest in
    ap (λ (l : List ℕ). take n rest ++ drop (length (take n rest)) l) (sym all) ∙ ap (λ (l : List ℕ). take n rest ++ l) (drop_at (take n rest) (drop n rest) (length (take n rest)) refl) ∙ all

whole : (old : List ℕ) (at n : ℕ) → take at old ++ take n (drop at old) ++ drop (at + length (take n (drop at old))) old ≡ old
whole old at n =
    let k = length (take n (drop at old)) in
    let more : drop (at + k) old ≡ drop k (drop at old) = ap (λ (m : ℕ). drop m old) (omega arith) ∙ sym (drop-drop k at old) in
    append_assoc (take at old) (take n (drop at old)) (drop (at + k) old) ∙ ap (λ (l : List ℕ). take at old ++ (take n (drop at old) ++ l)) more
    ∙ ap (λ (l : List ℕ). take at old ++ l) (front_and_rest (drop at old) n) ∙ take-append-drop at old

before_written : (old new piece : List ℕ) (at : ℕ) → at ≤ length old → IsWritten old at piece new
    → take at new ++ take (length piece) (drop at old) ++ drop (at + length (take (length piece) (drop at old))) (take (length old) new) ≡ old
before_written old new piece at inside put =
    let torn = written_is_torn old new piece at inside put in
    let more : List ℕ = take (length piece) (drop at old) in
    ap (λ (l : List ℕ). l ++ more ++ drop (at + length more) (take (length old) new)) torn.before ∙ ap (λ (l : List ℕ). take at old ++ more ++ l) (behind_written old new piece at inside put) ∙ whole old at (length piece)

kept_rest : (kept more : List ℕ) → drop (length kept) (kept ++ more) ≡ more
kept_rest kept more = grind (arith, common_steps)

-- what a write replaces
abbrev pub replaced : ℕ → List ℕ → List ℕ → List ℕ → Replaced
replaced at piece old kept = record { at = at; count = length piece; long = length old; start = length kept }

fits_written : (old new piece kept : List ℕ) (at : ℕ) → at ≤ length old → IsWritten old at piece new → Fits (replaced at piece old kept) (kept ++ take (length piece) (drop at old)) new
fits_written old new piece kept at inside put = record {
  start = grind (arith, common_steps);
  long = rw put (grind (arith, common_steps));
  inside = grind (arith, common_steps);
  reach = rw put (grind (arith, common_steps));
}

pub logged_more : (writes : List Written) (log : List Replaced) (old new piece kept : List ℕ) (at : ℕ) → at ≤ length old → IsWritten old at piece new → AreLogged writes log kept old
    → AreLogged (record { at = at; count = length piece; file = old } ∷ writes) (replaced at piece old kept ∷ log) (kept ++ take (length piece) (drop at old)) new
logged_more writes log old new piece kept at inside put all =
    let back : file_before (replaced at piece old kept) (kept ++ take (length piece) (drop at old)) new ≡ old =
    ap (λ (l : List ℕ). take at new ++ l ++ drop (at + length l) (take (length old) new)) (kept_rest kept (take (length piece) (drop at old))) ∙ before_written old new piece at inside put in (
      record { fits = fits_written old new piece kept at inside put; at = refl; count = refl; is_before = back },
      subst (λ (l : List ℕ). AreLogged writes log l old) (sym (take-append_seam kept (take (length piece) (drop at old)))) all,
    )

-- the same, as the log notes it before the write
pub logged_write : (writes : List Written) (log log' : List Replaced) (old new piece kept kept' file : List ℕ) (at : ℕ) → at ≤ length old → IsWritten old at piece new → file ≡ old
    → log' ≡ log ++ replaced at piece file kept ∷ [] → kept' ≡ kept ++ take (length piece) (drop at file) → AreLogged writes (reverse log) kept old
    → AreLogged (record { at = at; count = length piece; file = old } ∷ writes) (reverse log') kept' new
logged_write writes log log' old new piece kept kept' file at inside put is noted more all =
    let note : log' ≡ log ++ replaced at piece old kept ∷ [] = noted ∙ ap (λ (l : List ℕ). log ++ replaced at piece l kept ∷ []) is in
    let rest : kept' ≡ kept ++ take (length piece) (drop at old) = more ∙ ap (λ (l : List ℕ). kept ++ take (length piece) (drop at l)) is in
    let now : List Written = record { at = at; count = length piece; file = old } ∷ writes in
    subst (λ (l : List Replaced). AreLogged now l kept' new) (sym (pushed log log' (replaced at piece old kept) note))
    (subst (λ (l : List ℕ). AreLogged now (replaced at piece old kept ∷ reverse log) l new) (sym rest) (logged_more writes (reverse log) old new piece kept at inside put all))
