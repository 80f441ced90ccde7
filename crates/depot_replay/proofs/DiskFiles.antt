-- The file of a journal while a record is appended, and the crash images of it.
use Rattle.std.proofs.Common.{◌≡◌, ◌≤◌, ◌<◌, ℕ, ◌+◌, List, [], ◌∷◌, ◌++◌, length, length-append, take, drop, refl, sym, ap, subst, ◌∙◌, arith, append_assoc, append-nil}
use Rattle.std.proofs.lemmas.List.{take_at, take-append-drop}
use Rattle.depot_base.specs.File.{StandsFor, blocks, closed_block}
use Rattle.depot_journal.specs.WriteSteps.{StandsTo}
use Rattle.depot_journal.proofs.Mirrors.{closed_long}
use Rattle.depot_journal.proofs.RecordBlocks.{appended}
use Rattle.depot_journal.proofs.Walk.{stands_of}
use Rattle.depot_outside.specs.Images.{synced_as, written_at}
use Rattle.depot_outside.specs.StopImages.{blank, left_by, overwritten}
use Rattle.depot_outside.specs.declared.stops.Image.{Image}
use Rattle.depot_outside.specs.declared.stops.Image.TheVariants as image
use Rattle.depot_outside.proofs.Blank.{blank_before, blank_parts}
use Rattle.depot_outside.proofs.Written.{written_is_torn}

-- the closed gate after these records has this offset
pub stands_to : (file : List ℕ) (bodies : List (List ℕ)) → StandsFor file bodies → StandsTo file bodies (length (blocks bodies))
stands_to file bodies (gate, rest, closed, parts) = (gate, rest, closed, parts, refl)

inside : (file : List ℕ) (bodies : List (List ℕ)) (end : ℕ) → StandsTo file bodies end → end < length file
inside file bodies end (gate, rest, closed, parts, at) = omega (arith, ap length parts, length-append (blocks bodies) (gate ∷ rest), at)

up_to_gate : (file : List ℕ) (bodies : List (List ℕ)) (end : ℕ) → StandsTo file bodies end → take end file ≡ blocks bodies
up_to_gate file bodies end (gate, rest, closed, parts, at) = ap (take end) parts ∙ take_at (blocks bodies) (gate ∷ rest) end (sym at)

-- ---- the crash images while the block is written after the gate

-- the same records are in a file that is the same as far as the gate
same_front : (old new : List ℕ) (bodies : List (List ℕ)) (end : ℕ) → StandsTo old bodies end → take (end + 1) new ≡ take (end + 1) old → StandsTo new bodies end
same_front old new bodies end (gate, rest, closed, parts, at) same =
    let split : old ≡ (blocks bodies ++ gate ∷ []) ++ rest = parts ∙ sym (append_assoc (blocks bodies) (gate ∷ []) rest) in
    let long : length (blocks bodies ++ gate ∷ []) ≡ end + 1 = omega (arith, length-append (blocks bodies) (gate ∷ []), at) in
    let front : take (end + 1) new ≡ blocks bodies ++ gate ∷ [] = same ∙ ap (take (end + 1)) split ∙ take_at (blocks bodies ++ gate ∷ []) rest (end + 1) long in
    (gate, drop (end + 1) new, closed, sym (take-append-drop (end + 1) new) ∙ ap (λ (x : List ℕ). x ++ drop (end + 1) new) front ∙ append_assoc (blocks bodies) (gate ∷ []) (drop (end + 1) new), at)

front_written : (file bytes : List ℕ) (at : ℕ) → at ≤ length file → take at (overwritten file at bytes) ≡ take at file
front_written file bytes at h = (written_is_torn file (overwritten file at bytes) bytes at h refl).before

pub block_left : (left : Image) (file block : List ℕ) (bodies : List (List ℕ)) (end : ℕ) → StandsTo file bodies end
    → StandsTo (left_by left (written_at (synced_as file) file (end + 1) (length block)) (overwritten file (end + 1) block)) bodies end
block_left image.Synced file block bodies end s = s
block_left image.Written file block bodies end s =
    same_front file (overwritten file (end + 1) block) bodies end s (front_written file block (end + 1) (omega (arith, inside file bodies end s)))
block_left image.Blanked file block bodies end s =
    let new : List ℕ = overwritten file (end + 1) block in
    same_front file (blank (end + 1) (length block) new) bodies end s (blank_before (end + 1) (length block) new ∙ front_written file block (end + 1) (omega (arith, inside file bodies end s)))

-- ---- the crash images while the gate is opened

-- a gate of 255 is closed
gate_blank : (file : List ℕ) (bodies : List (List ℕ)) (end : ℕ) → StandsTo file bodies end → StandsFor (blank end 1 (overwritten file end (1 ∷ []))) bodies
gate_blank file bodies end s =
    let new : List ℕ = overwritten file end (1 ∷ []) in
    let h = inside file bodies end s in
    let torn = written_is_torn file new (1 ∷ []) end (omega (arith, h)) refl in
    let front : take end new ≡ blocks bodies = torn.before ∙ up_to_gate file bodies end s in
    (255, drop (end + 1) new, omega arith, blank_parts end 1 new (omega (arith, h, torn.no_shorter)) ∙ append_assoc (take end new) (255 ∷ []) (drop (end + 1) new) ∙ ap (λ (x : List ℕ). x ++ 255 ∷ drop (end + 1) new) front)

-- the block alone changes no record
block_written : (s0 s1 body : List ℕ) (bodies : List (List ℕ)) (end : ℕ) → StandsTo s0 bodies end → s1 ≡ overwritten s0 (end + 1) (closed_block body) → StandsTo s1 bodies end
block_written s0 s1 body bodies end s w = subst (λ (x : List ℕ). StandsTo x bodies end) (sym w) (block_left image.Written s0 (closed_block body) bodies end s)

-- the block and then the gate of one record
pub one_appended : (s0 s1 s2 body : List ℕ) (bodies : List (List ℕ)) (end : ℕ) → StandsTo s0 bodies end → s1 ≡ overwritten s0 (end + 1) (closed_block body) → s2 ≡ overwritten s1 end (1 ∷ []) → StandsTo s2 (bodies ++ body ∷ []) (end + (5 + length body))
one_appended s0 s1 s2 body bodies end s block gate =
    subst (λ (long : ℕ). StandsTo s2 (bodies ++ body ∷ []) (end + long)) (closed_long body) (appended s0 s1 s2 bodies (body ∷ []) end (omega arith) s block gate)

-- how many of a record whose gate is being opened are in an image
abbrev pub opened_in : Image → ℕ
opened_in image.Synced = 0
opened_in image.Written = 1
opened_in image.Blanked = 0

pub gate_left : (left : Image) (s0 s1 body : List ℕ) (bodies texts : List (List ℕ)) (end : ℕ) → StandsTo s0 bodies end → s1 ≡ overwritten s0 (end + 1) (closed_block body)
    → StandsFor (left_by left (written_at (synced_as s1) s1 end 1) (overwritten s1 end (1 ∷ []))) (bodies ++ take (opened_in left) (body ∷ texts))
gate_left image.Synced s0 s1 body bodies texts end s w =
    rw (append-nil bodies) (stands_of s1 bodies end (block_written s0 s1 body bodies end s w))
gate_left image.Written s0 s1 body bodies texts end s w =
    stands_of (overwritten s1 end (1 ∷ [])) (bodies ++ body ∷ []) (end + (5 + length body)) (one_appended s0 s1 (overwritten s1 end (1 ∷ [])) body bodies end s w refl)
gate_left image.Blanked s0 s1 body bodies texts end s w =
    rw (append-nil bodies) (gate_blank s1 bodies end (block_written s0 s1 body bodies end s w))
