-- The crash images of the two steps of an append.
use Rattle.std.proofs.Common.{◌≡◌, ◌≢◌, ◌⊎◌, ◌≤◌, inl, inr, ⊎_elim, ℕ, ◌+◌, List, [], ◌∷◌, ◌++◌, length, get_or, take, drop, sym, ◌∙◌, ap, arith, append_assoc, length-append, take-append-drop}
use Rattle.std.proofs.lemmas.Bool.{cases_eq}
use Rattle.std.proofs.lemmas.List.{take_at, drop_at, drop_more}
use Rattle.depot_base.specs.Disk.{IsWritten, IsTorn}
use Rattle.depot_base.specs.File.{blocks}
use Rattle.depot_journal.specs.Groups.{group_block}
use Rattle.depot_journal.specs.WriteSteps.{StandsTo, IsBeforeOrAfter}
use Rattle.depot_journal.proofs.RecordBlocks.{group_stands}

closed_front : (bodies : List (List ℕ)) (gate : ℕ) (rest : List ℕ) (end : ℕ) → end ≡ length (blocks bodies) → take (end + 1) (blocks bodies ++ gate ∷ rest) ≡ blocks bodies ++ gate ∷ []
closed_front bodies gate rest end at = ap (take (end + 1)) (sym (append_assoc (blocks bodies) (gate ∷ []) rest)) ∙ take_at (blocks bodies ++ gate ∷ []) rest (end + 1) (omega (arith, at, length-append (blocks bodies) (gate ∷ [])))

-- the closed gate is in each image of the first write
pub torn_behind : (base c : List ℕ) (bodies group : List (List ℕ)) (end n : ℕ) → StandsTo base bodies end → (c ≡ base) ⊎ IsTorn (end + 1) n base c → IsBeforeOrAfter bodies group c
torn_behind base c bodies group end n (gate, rest, closed, file, at) (inl same) = inl (gate, rest, closed, same ∙ file)
torn_behind base c bodies group end n (gate, rest, closed, file, at) (inr torn) =
    inl (gate, drop (end + 1) c, closed, sym (take-append-drop (end + 1) c) ∙ ap (λ (l : List ℕ). l ++ drop (end + 1) c) (torn.before ∙ ap (take (end + 1)) file ∙ closed_front bodies gate rest end at) ∙ append_assoc (blocks bodies) (gate ∷ []) (drop (end + 1) c))

-- The group is whole after the closed gate.
abbrev pub IsStaged : List ℕ → List (List ℕ) → List (List ℕ) → Type 0
IsStaged file bodies group = (gate : ℕ) × (more : List ℕ) × (gate ≢ 1) × (file ≡ blocks bodies ++ (gate ∷ (group_block group ++ more)))

pub staged : (base new : List ℕ) (bodies group : List (List ℕ)) (end : ℕ) → StandsTo base bodies end → IsWritten base (end + 1) (group_block group) new → IsStaged new bodies group
staged base new bodies group end (gate, rest, closed, file, at) holds =
    let more : List ℕ = drop (end + 1 + length (group_block group)) base in
    (gate, more, closed, holds ∙ ap (λ (l : List ℕ). l ++ group_block group ++ more) (ap (take (end + 1)) file ∙ closed_front bodies gate rest end at) ∙ append_assoc (blocks bodies ++ gate ∷ []) (group_block group) more ∙ append_assoc (blocks bodies) (gate ∷ []) (group_block group ++ more))

gated : (bodies group : List (List ℕ)) (more : List ℕ) (gate : ℕ) (c : List ℕ) → 1 ≤ length group → c ≡ blocks bodies ++ (gate ∷ (group_block group ++ more)) → IsBeforeOrAfter bodies group c
gated bodies group more gate c some e = ⊎_elim
    (λ (is_open : gate ≡ 1). inr (0, more, omega arith, e ∙ ap (λ (g : ℕ). blocks bodies ++ (g ∷ (group_block group ++ more))) is_open ∙ group_stands bodies group more some))
    (λ (closed : gate ≢ 1). inl (gate, group_block group ++ more, closed, e))
    (cases_eq gate 1)

-- the group is whole in each image of the second, whatever its gate
pub torn_gate : (base c : List ℕ) (bodies group : List (List ℕ)) (end : ℕ) → 1 ≤ length group → end ≡ length (blocks bodies) → IsStaged base bodies group → (c ≡ base) ⊎ IsTorn end 1 base c → IsBeforeOrAfter bodies group c
torn_gate base c bodies group end some at (gate, more, closed, is) (inl same) = gated bodies group more gate c some (same ∙ is)
torn_gate base c bodies group end some at (gate, more, closed, is) (inr torn) =
    let behind : List ℕ = group_block group ++ more in
    let long : length base ≡ end + 1 + length behind = ap length is ∙ length-append (blocks bodies) (gate ∷ behind) ∙ omega (arith, at) in
    let rest : drop end c ≡ get_or c end 0 ∷ drop (end + 1) c = drop_more c end 0 (omega (arith, torn.no_shorter, long)) in
    let after : drop (end + 1) c ≡ behind = torn.after ∙ ap (drop (end + 1)) (is ∙ sym (append_assoc (blocks bodies) (gate ∷ []) behind)) ∙ drop_at (blocks bodies ++ gate ∷ []) behind (end + 1) (omega (arith, at, length-append (blocks bodies) (gate ∷ []))) in
    gated bodies group more (get_or c end 0) c some
    (sym (take-append-drop end c) ∙ ap (λ (l : List ℕ). l ++ drop end c) (torn.before ∙ ap (take end) is ∙ take_at (blocks bodies) (gate ∷ behind) end (sym at)) ∙ ap (λ (l : List ℕ). blocks bodies ++ l) (rest ∙ ap (λ (l : List ℕ). get_or c end 0 ∷ l) after))
