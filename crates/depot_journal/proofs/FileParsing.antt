-- The records of a file, found one by one.
use Rattle.std.proofs.Common.{◌≡◌, ◌≤◌, ◌⊎◌, inl, inr, ℕ, ◌+◌, ◌-◌, min, List, [], ◌∷◌, ◌++◌, length, length-append, take, drop, refl, sym, ◌∙◌, ap, subst, arith, append_assoc, take-append-drop}
use Rattle.std.proofs.lemmas.List.{take_at, map-append, take-append-le, length-take, length-drop}
use Rattle.std.proofs.lemmas.Bool.{cases_lt}
use Rattle.depot_base.specs.declared.limits.TheConstants.{MOST_JOURNAL}
use Rattle.depot_journal.specs.declared.journal_error.JournalError.{JournalError}
use Rattle.depot_journal.specs.declared.journal_error.JournalError.TheVariants as journal_error
use Rattle.depot_journal.specs.declared.span.Span.{Span}
use Rattle.depot_journal.specs.JournalAnswers.{IsDamage}
use Rattle.depot_base.specs.File.{IsDamagedAt, blocks, framed}
use Rattle.depot_journal.specs.Mirrored.{EndWithin, IsMirror, bodies_at, cut}
use Rattle.depot_journal.specs.WriteSteps.{StandsTo}
use Rattle.depot_base.proofs.CallLaws.{framed_long}
use Rattle.depot_journal.proofs.RecordBlocks.{blocks_push}
use Rattle.depot_journal.proofs.Mirrors.{bodies_grown, cut_grown, cut_last}

-- a record more was found
pub found_more : (file rest text after : List ℕ) (spans spans' : List Span) (s : Span) (end : ℕ) → file ≡ blocks (bodies_at file spans) ++ rest → end ≡ length (blocks (bodies_at file spans)) → rest ≡ 1 ∷ (framed text ++ after)
    → spans' ≡ spans ++ s ∷ [] → s.start ≡ end + 5 → s.end ≡ end + 5 + length text → bodies_at file spans' ≡ bodies_at file spans ++ text ∷ []
found_more file rest text after spans spans' s end read at split pushed start stop =
    let front : List ℕ = blocks (bodies_at file spans) in
    let whole : List ℕ = front ++ (1 ∷ framed text) in
    let parts : file ≡ whole ++ after = read ∙ ap (λ (l : List ℕ). front ++ l) split ∙ sym (append_assoc front (1 ∷ framed text) after) in
    let last : cut file s ≡ text = ap (λ (l : List ℕ). cut l s) parts ∙ cut_grown whole after s (omega (arith, start, stop)) (omega (arith, stop, at, length-append front (1 ∷ framed text), framed_long text)) ∙ cut_last front text s (omega (arith, start, at)) (omega (arith, stop, at)) in
    ap (bodies_at file) pushed ∙ map-append (cut file) spans (s ∷ []) ∙ ap (λ (l : List ℕ). bodies_at file spans ++ l ∷ []) last

-- how long the file is at least
pub found_long : (file rest text after : List ℕ) (bodies : List (List ℕ)) (end : ℕ) → file ≡ blocks bodies ++ rest → end ≡ length (blocks bodies) → rest ≡ 1 ∷ (framed text ++ after) → end + 5 + length text + length after ≡ length file
found_long file rest text after bodies end read at split = omega (arith, at, ap length read, ap length split, length-append (blocks bodies) rest, length-append (framed text) after, framed_long text)

pub cut_long : (file : List ℕ) (bodies : List (List ℕ)) (end : ℕ) → StandsTo file bodies end → length (take end file) ≡ end
cut_long file bodies end stands = omega (arith, length-take end file, stands.4, ap length stands.3, length-append (blocks bodies) (stands.0 ∷ stands.1))

-- the bytes up to the closed gate are the mirror of the file
pub cut_bodies : (file : List ℕ) (spans : List Span) (end : ℕ) → StandsTo file (bodies_at file spans) end → EndWithin end spans → bodies_at (take end file) spans ≡ bodies_at file spans
cut_bodies file spans end stands within =
    let long : length (take end file) ≡ end = cut_long file (bodies_at file spans) end stands in
    sym (bodies_grown (take end file) (drop end file) spans (subst (λ (n : ℕ). EndWithin n spans) (sym long) within)) ∙ ap (λ (l : List ℕ). bodies_at l spans) (take-append-drop end file)

pub cut_mirror : (file : List ℕ) (spans : List Span) (end : ℕ) → StandsTo file (bodies_at file spans) end → EndWithin end spans → IsMirror (take end file) spans
cut_mirror file spans end stands within =
    let long : length (take end file) ≡ end = cut_long file (bodies_at file spans) end stands in
    record {
      parts = ap (take end) stands.3 ∙ take_at (blocks (bodies_at file spans)) (stands.0 ∷ stands.1) end (sym stands.4) ∙ ap blocks (sym (cut_bodies file spans end stands within));
      within = subst (λ (n : ℕ). EndWithin n spans) (sym long) within;
    }

-- ---- a file that is longer than a journal may be

-- what is in a prefix of the file is in the file
pub stands_in : (file front : List ℕ) (n : ℕ) (bodies : List (List ℕ)) (end : ℕ) → front ≡ take n file → StandsTo front bodies end → StandsTo file bodies end
stands_in file front n bodies end is (gate, rest, closed, parts, at) =
    (gate, rest ++ drop n file, closed, sym (take-append-drop n file) ∙ ap (λ (l : List ℕ). l ++ drop n file) (sym is ∙ parts) ∙ append_assoc (blocks bodies) (gate ∷ rest) (drop n file), at)

-- what two lists begin with, where the second's part is no longer
begins_with : (a b c d : List ℕ) → a ++ b ≡ c ++ d → length c ≤ length a → a ≡ c ++ drop (length c) a
begins_with a b c d e short =
    sym (take-append-drop (length c) a) ∙ ap (λ (l : List ℕ). l ++ drop (length c) a) (sym (take-append-le (length c) a b short) ∙ ap (take (length c)) e ∙ take_at c d (length c) refl)

-- the prefix, which is all of the file or as much as a journal may have, is damaged where the file is
pub damaged_in : (file front : List ℕ) (n at : ℕ) → front ≡ take n file → (length file ≤ n) ⊎ (n ≡ MOST_JOURNAL) → IsDamagedAt front at → IsDamagedAt file at
damaged_in file front n at is enough d = record {
  good = d.good;
  rest = d.rest ++ drop n file;
  long = omega (arith, d.long, ap length is, length-take n file);
  within = d.within;
  parts = sym (take-append-drop n file) ∙ ap (λ (l : List ℕ). l ++ drop n file) (sym is ∙ d.parts) ∙ append_assoc (blocks d.good) (1 ∷ d.rest) (drop n file);
  place = d.place;
  bad = λ body gate more short e within.
      let whole : List ℕ = framed body ++ gate ∷ [] in
      let front_long : length front ≡ length (blocks d.good) + (1 + length d.rest) = omega (arith, ap length d.parts, length-append (blocks d.good) (1 ∷ d.rest)) in
      let size : length whole ≡ 5 + length body = omega (arith, length-append (framed body) (gate ∷ []), framed_long body) in
      let most : length (blocks (d.good ++ body ∷ [])) ≡ length (blocks d.good) + (5 + length body) = ap length (blocks_push d.good body) ∙ omega (arith, length-append (blocks d.good) (1 ∷ framed body), framed_long body) in
      let all : length d.rest + (length file - n) ≡ 5 + length body + length more = omega (arith, ap length e, length-append d.rest (drop n file), length-drop n file, length-append (framed body) (gate ∷ more), framed_long body) in
      let fits : length whole ≤ length d.rest = elim enough [
        | inl short_file ↦ omega (arith, size, all, short_file)
        | inr is_most ↦ omega (arith, size, all, front_long, most, within.bytes, is_most, ap length is, length-take n file)
      ] in
      let begins : d.rest ≡ whole ++ drop (length whole) d.rest = begins_with d.rest (drop n file) whole more (e ∙ sym (append_assoc (framed body) (gate ∷ []) more)) fits in
      d.bad body gate (drop (length whole) d.rest) short (begins ∙ append_assoc (framed body) (gate ∷ []) (drop (length whole) d.rest)) within;
}

damage_in : (file front : List ℕ) (n : ℕ) → front ≡ take n file → (length file ≤ n) ⊎ (n ≡ MOST_JOURNAL) → (e : JournalError) → IsDamage front e → IsDamage file e
damage_in file front n is enough journal_error.Memory d = tt
damage_in file front n is enough journal_error.Disk d = tt
damage_in file front n is enough (journal_error.Damaged at) d = damaged_in file front n at is enough d

-- the same for the first bytes as they are read
pub damage_of : (file front : List ℕ) (n size : ℕ) → front ≡ take n file → n ≡ min size MOST_JOURNAL → size ≡ length file → (e : JournalError) → IsDamage front e → IsDamage file e
damage_of file front n size is least whole e d = elim (cases_lt size MOST_JOURNAL) [
  | inl less ↦ damage_in file front n is (inl (omega (arith, least, whole, less))) e d
  | inr most ↦ damage_in file front n is (inr (omega (arith, least, most))) e d
]
