-- A record more in a mirror.
use Rattle.std.proofs.Common.{◌≡◌, ◌≤◌, ℕ, ◌+◌, ◌-◌, List, [], ◌∷◌, ◌++◌, length, length-append, take, drop, slice_get, Some, zero, suc, refl, ap, ◌∙◌, sym, subst, arith, append_assoc, append-nil}
use Rattle.std.proofs.lemmas.List.{take_at, drop_at, take_all, map-append, length-drop, length-map}
use Rattle.std.proofs.lemmas.Grind.{common_steps}
use Rattle.std.proofs.lemmas.Option.{slice_get-map}
use Rattle.std.specs.Option.{option_map}
use Rattle.depot_base.specs.Cursor.{numeral}
use Rattle.std.specs.Int.{w32}
use Rattle.depot_journal.specs.declared.span.Span.{Span}
use Rattle.depot_base.specs.File.{blocks, closed_block, framed}
use Rattle.depot_journal.specs.Groups.{group_block}
use Rattle.depot_journal.specs.Mirrored.{EndWithin, IsMirror, bodies_at, cut}
use Rattle.depot_base.proofs.CallLaws.{framed_long, numeral_long}
use Rattle.depot_journal.proofs.RecordBlocks.{blocks_push, group_opened}

-- bytes that are added after change no span before
pub cut_grown : (bytes more : List ℕ) (s : Span) → s.start ≤ s.end → s.end ≤ length bytes → cut (bytes ++ more) s ≡ cut bytes s
cut_grown bytes more s order within = grind (arith, common_steps)

pub bodies_grown : (bytes more : List ℕ) (spans : List Span) → EndWithin (length bytes) spans → bodies_at (bytes ++ more) spans ≡ bodies_at bytes spans
bodies_grown bytes more [] within = refl
bodies_grown bytes more (s ∷ spans) within =
    ap (λ (x : List ℕ). x ∷ bodies_at (bytes ++ more) spans) (cut_grown bytes more s within.0 within.1) ∙ ap (λ (x : List (List ℕ)). cut bytes s ∷ x) (bodies_grown bytes more spans within.2)

pub within_more : (long long' : ℕ) (spans : List Span) (s : Span) → long ≤ long' → EndWithin long spans → s.start ≤ s.end → s.end ≤ long' → EndWithin long' (spans ++ s ∷ [])
within_more long long' [] s grown within order end = (order, end, tt)
within_more long long' (t ∷ spans) s grown within order end = (within.0, omega (arith, within.1), within_more long long' spans s grown within.2 order end)

-- the body of a record follows its gate and its length
pub cut_last : (bytes text : List ℕ) (s : Span) → s.start ≡ length bytes + 5 → s.end ≡ length bytes + 5 + length text → cut (bytes ++ (1 ∷ framed text)) s ≡ text
unfolding framed
cut_last bytes text s start end =
    let head : List ℕ = bytes ++ (1 ∷ numeral w32 (length text)) in
    let parts : bytes ++ (1 ∷ (numeral w32 (length text) ++ text)) ≡ head ++ text = sym (append_assoc bytes (1 ∷ numeral w32 (length text)) text) in
    let long : length head ≡ s.start = omega (arith, start, length-append bytes (1 ∷ numeral w32 (length text)), numeral_long (length text)) in
    ap (λ (x : List ℕ). take (s.end - s.start) (drop s.start x)) parts ∙ ap (take (s.end - s.start)) (drop_at head text s.start long) ∙ take_all (s.end - s.start) text (omega (arith, start, end))

pub bodies_more : (bytes bytes' text : List ℕ) (spans spans' : List Span) (s : Span) → IsMirror bytes spans → bytes' ≡ bytes ++ (1 ∷ framed text) → spans' ≡ spans ++ s ∷ [] → s.start ≡ length bytes + 5 → s.end ≡ length bytes + 5 + length text
    → bodies_at bytes' spans' ≡ bodies_at bytes spans ++ text ∷ []
bodies_more bytes bytes' text spans spans' s m more pushed start end =
    ap (λ (x : List ℕ). bodies_at x spans') more ∙ ap (bodies_at (bytes ++ (1 ∷ framed text))) pushed ∙ map-append (cut (bytes ++ (1 ∷ framed text))) spans (s ∷ [])
    ∙ ap (λ (x : List (List ℕ)). x ++ cut (bytes ++ (1 ∷ framed text)) s ∷ []) (bodies_grown bytes (1 ∷ framed text) spans m.within) ∙ ap (λ (x : List ℕ). bodies_at bytes spans ++ x ∷ []) (cut_last bytes text s start end)

pub mirror_more : (bytes bytes' text : List ℕ) (spans spans' : List Span) (s : Span) → IsMirror bytes spans → bytes' ≡ bytes ++ (1 ∷ framed text) → spans' ≡ spans ++ s ∷ [] → s.start ≡ length bytes + 5 → s.end ≡ length bytes + 5 + length text
    → IsMirror bytes' spans'
mirror_more bytes bytes' text spans spans' s m more pushed start end =
    let long : length bytes' ≡ length bytes + 5 + length text = ap length more ∙ omega (arith, length-append bytes (1 ∷ framed text), framed_long text) in
    record {
      parts = more ∙ ap (λ (x : List ℕ). x ++ (1 ∷ framed text)) m.parts ∙ sym (ap blocks (bodies_more bytes bytes' text spans spans' s m more pushed start end) ∙ blocks_push (bodies_at bytes spans) text);
      within = subst (EndWithin (length bytes')) (sym pushed) (within_more (length bytes) (length bytes') spans s (omega (arith, long)) m.within (omega (arith, start, end)) (omega (arith, end, long)));
    }

-- ---- the bytes of a block, before its gate is opened on the disk

pub closed_long : (body : List ℕ) → length (closed_block body) ≡ 5 + length body
closed_long body = omega (arith, length-append (framed body) (0 ∷ []), framed_long body)

pub put_long : (old new text : List ℕ) → new ≡ old ++ (1 ∷ closed_block text) → length new ≡ length old + (6 + length text)
put_long old new text put = ap length put ∙ omega (arith, length-append old (1 ∷ closed_block text), closed_long text)

-- what is written after the gate
pub behind_gate : (old new whole text : List ℕ) (gate : ℕ) → whole ≡ new → new ≡ old ++ (1 ∷ closed_block text) → gate ≡ length old → take (length whole - (gate + 1)) (drop (gate + 1) whole) ≡ closed_block text
behind_gate old new whole text gate is put at =
    let rest : drop (gate + 1) whole ≡ closed_block text = ap (drop (gate + 1)) (is ∙ put ∙ sym (append_assoc old (1 ∷ []) (closed_block text))) ∙ drop_at (old ++ 1 ∷ []) (closed_block text) (gate + 1) (omega (arith, at, length-append old (1 ∷ []))) in
    take_all (length whole - (gate + 1)) (drop (gate + 1) whole) (omega (arith, length-drop (gate + 1) whole)) ∙ rest

-- what is written after the gate of a group
pub behind_group : (old whole : List ℕ) (group : List (List ℕ)) (gate : ℕ) → whole ≡ old ++ (blocks group ++ 0 ∷ []) → gate ≡ length old → 1 ≤ length group → take (length whole - (gate + 1)) (drop (gate + 1) whole) ≡ group_block group
behind_group old whole group gate is at some =
    let opened : blocks group ++ 0 ∷ [] ≡ 1 ∷ group_block group = sym (group_opened group [] some) ∙ ap (λ (l : List ℕ). 1 ∷ l) (append-nil (group_block group)) in
    let rest : drop (gate + 1) whole ≡ group_block group =
    ap (drop (gate + 1)) (is ∙ ap (λ (l : List ℕ). old ++ l) opened ∙ sym (append_assoc old (1 ∷ []) (group_block group))) ∙ drop_at (old ++ 1 ∷ []) (group_block group) (gate + 1) (omega (arith, at, length-append old (1 ∷ []))) in
    take_all (length whole - (gate + 1)) (drop (gate + 1) whole) (omega (arith, length-drop (gate + 1) whole)) ∙ rest

-- the bytes of a group without their first one, and a byte behind them
pub behind_first : (whole bytes : List ℕ) → whole ≡ bytes ++ 0 ∷ [] → 1 ≤ length bytes → take (length whole - 1) (drop 1 whole) ≡ drop 1 bytes ++ 0 ∷ []
behind_first whole [] is some = absurd (omega (arith, some))
behind_first whole (b ∷ bytes) is some =
    take_all (length whole - 1) (drop 1 whole) (omega (arith, length-drop 1 whole)) ∙ ap (drop 1) is

-- without the closed gate after it
pub open_block : (old new text : List ℕ) (end : ℕ) → new ≡ old ++ (1 ∷ closed_block text) → end + 1 ≡ length new → take end new ≡ old ++ (1 ∷ framed text)
open_block old new text end put at =
    let parts : new ≡ (old ++ (1 ∷ framed text)) ++ 0 ∷ [] = put ∙ sym (append_assoc old (1 ∷ framed text) (0 ∷ [])) in
    ap (take end) parts ∙ take_at (old ++ (1 ∷ framed text)) (0 ∷ []) end (omega (arith, at, ap length parts, length-append (old ++ (1 ∷ framed text)) (0 ∷ [])))

-- ---- reading

pub bodies_many : (bytes : List ℕ) (spans : List Span) → length (bodies_at bytes spans) ≡ length spans
bodies_many bytes spans = length-map spans (cut bytes)

pub span_at : (long : ℕ) (spans : List Span) (i : ℕ) (s : Span) → EndWithin long spans → slice_get spans i ≡ Some s → (s.start ≤ s.end) × (s.end ≤ long)
span_at long [] i s within at = absurd cc
span_at long (t ∷ spans) zero s within at = let same : t ≡ s = cc in subst (λ (u : Span). (u.start ≤ u.end) × (u.end ≤ long)) same (within.0, within.1)
span_at long (t ∷ spans) (suc i) s within at = span_at long spans i s within.2 at

pub body_at : (bytes : List ℕ) (spans : List Span) (i : ℕ) (s : Span) → slice_get spans i ≡ Some s → slice_get (bodies_at bytes spans) i ≡ Some (cut bytes s)
body_at bytes spans i s at = slice_get-map (cut bytes) spans i ∙ ap (option_map (cut bytes)) at
