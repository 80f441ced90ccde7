-- Records in a file, and one that is added.
use Rattle.std.proofs.Common.{◌≡◌, ◌<◌, ◌≤◌, ℕ, List, [], ◌∷◌, ◌++◌, ◌+◌, length, length-append, take, drop, refl, ap, ◌∙◌, sym, arith, append_assoc, append-nil}
use Rattle.std.proofs.lemmas.List.{take_at}
use Rattle.std.proofs.lemmas.Grind.{common_steps}
use Rattle.std.specs.Prelude.{Result, Ok, Err, IsOk, OnOk, OnErr, is_err, true, false}
use Rattle.depot_base.proofs.CallLaws.{framed_long}
use Rattle.depot_base.specs.Disk.{IsWritten}
use Rattle.depot_base.specs.File.{blocks, framed}
use Rattle.depot_base.proofs.Blocks.{blocks-append}
use Rattle.depot_journal.specs.Groups.{group_block}
use Rattle.depot_journal.specs.WriteSteps.{StandsTo}

pub blocks_push : (bodies : List (List ℕ)) (body : List ℕ) → blocks (bodies ++ body ∷ []) ≡ blocks bodies ++ (1 ∷ framed body)
blocks_push [] body = ap (λ (x : List ℕ). 1 ∷ x) (append-nil (framed body))
blocks_push (b ∷ bodies) body = ap (λ (x : List ℕ). 1 ∷ (framed b ++ x)) (blocks_push bodies body) ∙ ap (λ (x : List ℕ). 1 ∷ x) (sym (append_assoc (framed b) (blocks bodies) (1 ∷ framed body)))

pub one_more : (file rest after body : List ℕ) (bodies bodies' : List (List ℕ)) → file ≡ blocks bodies ++ rest → rest ≡ 1 ∷ (framed body ++ after) → bodies' ≡ bodies ++ body ∷ [] → file ≡ blocks bodies' ++ after
one_more file rest after body bodies bodies' read split pushed =
    read ∙ ap (λ (x : List ℕ). blocks bodies ++ x) split ∙ sym (append_assoc (blocks bodies) (1 ∷ framed body) after) ∙ ap (λ (x : List ℕ). x ++ after) (sym (ap blocks pushed ∙ blocks_push bodies body))

pub one_longer : (end : ℕ) (body : List ℕ) (bodies bodies' : List (List ℕ)) → end ≡ length (blocks bodies) → bodies' ≡ bodies ++ body ∷ [] → end + (5 + length body) ≡ length (blocks bodies')
one_longer end body bodies bodies' at pushed = omega (arith, ap length (ap blocks pushed ∙ blocks_push bodies body), length-append (blocks bodies) (1 ∷ framed body), framed_long body)

-- the file with a record after the closed gate, and then with the gate opened
pub opened : (s0 s1 s2 block : List ℕ) (gate : ℕ) → gate < length s0 → IsWritten s0 (gate + 1) block s1 → IsWritten s1 gate (1 ∷ []) s2 → s2 ≡ take gate s0 ++ (1 ∷ (block ++ drop (gate + 1 + length block) s0))
opened s0 s1 s2 block gate h w1 w2 =
    let front : take gate s1 ≡ take gate s0 = ap (take gate) w1 ∙ grind (arith, common_steps) in
    let behind : drop (gate + 1) s1 ≡ block ++ drop (gate + 1 + length block) s0 = ap (drop (gate + 1)) w1 ∙ grind (arith, common_steps) in
    w2 ∙ append_assoc (take gate s1) (1 ∷ []) (drop (gate + 1) s1) ∙ ap (λ (x : List ℕ). x ++ (1 ∷ drop (gate + 1) s1)) front ∙ ap (λ (x : List ℕ). take gate s0 ++ (1 ∷ x)) behind

-- ---- a group of records after others

pub blocks_join : (xs ys : List (List ℕ)) → blocks (xs ++ ys) ≡ blocks xs ++ blocks ys
blocks_join [] ys = refl
blocks_join (x ∷ xs) ys = ap (λ (l : List ℕ). 1 ∷ (framed x ++ l)) (blocks_join xs ys) ∙ ap (λ (l : List ℕ). 1 ∷ l) (sym (append_assoc (framed x) (blocks xs) (blocks ys)))

-- behind an open gate its block has its records, and then comes a closed gate
pub group_opened : (group : List (List ℕ)) (rest : List ℕ) → 1 ≤ length group → 1 ∷ (group_block group ++ rest) ≡ blocks group ++ 0 ∷ rest
group_opened [] rest some = absurd (omega (arith, some))
group_opened (body ∷ group) rest some =
    ap (λ (l : List ℕ). 1 ∷ l) (append_assoc (framed body) (blocks group ++ 0 ∷ []) rest ∙ ap (λ (l : List ℕ). framed body ++ l) (append_assoc (blocks group) (0 ∷ []) rest) ∙ sym (append_assoc (framed body) (blocks group) (0 ∷ rest)))

-- so in a file
pub group_stands : (bodies group : List (List ℕ)) (rest : List ℕ) → 1 ≤ length group → blocks bodies ++ (1 ∷ (group_block group ++ rest)) ≡ blocks (bodies ++ group) ++ 0 ∷ rest
group_stands bodies group rest some =
    ap (λ (l : List ℕ). blocks bodies ++ l) (group_opened group rest some) ∙ sym (append_assoc (blocks bodies) (blocks group) (0 ∷ rest)) ∙ ap (λ (l : List ℕ). l ++ 0 ∷ rest) (sym (blocks_join bodies group))

-- a block has as many bytes as the records, since it has a closed gate in place of the first open one
pub group_long : (group : List (List ℕ)) → length (group_block group) ≡ length (blocks group)
group_long [] = refl
group_long (body ∷ group) = omega (arith, length-append (framed body) (blocks group ++ 0 ∷ []), length-append (blocks group) (0 ∷ []), length-append (framed body) (blocks group))

-- the journal after it
pub appended : (s0 s1 s2 : List ℕ) (bodies group : List (List ℕ)) (end : ℕ) → 1 ≤ length group → StandsTo s0 bodies end → IsWritten s0 (end + 1) (group_block group) s1 → IsWritten s1 end (1 ∷ []) s2 → StandsTo s2 (bodies ++ group) (end + length (group_block group))
appended s0 s1 s2 bodies group end some (gate, rest, closed, file, at) w1 w2 =
    let front : take end s0 ≡ blocks bodies = ap (take end) file ∙ take_at (blocks bodies) (gate ∷ rest) end (sym at) in
    let more : List ℕ = drop (end + 1 + length (group_block group)) s0 in
    let long : end < length s0 = omega (arith, ap length file, length-append (blocks bodies) (gate ∷ rest), at) in
    let e = opened s0 s1 s2 (group_block group) end long w1 w2 in (
      0,
      more,
      omega arith,
      e ∙ ap (λ (x : List ℕ). x ++ (1 ∷ (group_block group ++ more))) front ∙ group_stands bodies group more some,
      omega (arith, at, group_long group, blocks-append bodies group),
    )

pub if_not_err : {T E : Type 0} → (r : Result T E) (P : Type 0) → is_err r ≡ false → OnOk r P → P
if_not_err (Ok x) P ok p = p
if_not_err (Err e) P ok p = absurd cc

pub if_err : {T E : Type 0} → (r : Result T E) (P : Type 0) → is_err r ≡ true → OnErr r P → P
if_err (Ok x) P failed p = absurd cc
if_err (Err e) P failed p = p

pub ok_no_err : {T E : Type 0} → (r : Result T E) → IsOk r → is_err r ≡ true → ⊥
ok_no_err (Ok x) ok failed = absurd cc
ok_no_err (Err e) ok failed = absurd cc
