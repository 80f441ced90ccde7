-- Changes one after the other: the writes that they make, and the frames of their values, each different value once.
use Rattle.std.proofs.Common.{◌≡◌, ℕ, ◌+◌, ◌<◌, not, Bool, true, false, ◌||◌, cond, List, [], ◌∷◌, ◌++◌, length, map, take, get_or, refl, sym, ap, ◌∙◌, append_assoc}
use Rattle.std.specs.List.{filter, flat_map, list_any}
use Rattle.std.specs.Str.{bytes_eq}
use Rattle.std.proofs.lemmas.Grind.{flat_map-append}
use Rattle.std.proofs.lemmas.List.{append-nil, map-append}
use Rattle.std.proofs.lemmas.List.Elements.{filter-append}
use Rattle.depot_base.proofs.GeneralLaws.{take_next}
use Rattle.depot_base.specs.Writes.{value_in_change}
use Rattle.depot_base.specs.declared.write.Change.{Change}
use Rattle.depot_base.specs.declared.write.Write.{Write}
use Rattle.depot_model.specs.exchange.Bundle.{value_frame}
use Rattle.depot_model.specs.texts.Frames.{text_of_frame}
use Rattle.depot_model.specs.lists.Lists.{is_among}
use Rattle.depot_model.specs.checks.Own.{values_of, write_of}
use Rattle.depot_model.proofs.lists.Members.{among-append}
use Rattle.depot_world.specs.FaultySigning.{each_once, text_of_values}
use Rattle.depot_scenario.specs.ScenarioTexts.{frames_behind}

-- ---- writes

-- the write of one change more
pub write_made : (cs : List Change) (i : ℕ) (c : Change) (w : Write) (old new : List Write) → i < length cs → c ≡ get_or cs i c → w ≡ write_of c → new ≡ old ++ w ∷ [] → old ≡ map write_of (take i cs) → new ≡ map write_of (take (i + 1) cs)
write_made cs i c w old new lt at is now are =
    now ∙ ap (λ (ws : List Write). ws ++ w ∷ []) are ∙ ap (λ (x : Write). map write_of (take i cs) ++ x ∷ []) is ∙ sym (ap (map write_of) (take_next cs i c lt at) ∙ map-append write_of (take i cs) (c ∷ []))

-- ---- values, each once

-- the last of some values occurs once after the others, unless it is among them
once_more : (vs : List (List ℕ)) (v : List ℕ) → each_once (vs ++ v ∷ []) ≡ each_once vs ++ cond (is_among v vs) [] (v ∷ [])
unfolding each_once
once_more [] v = refl
once_more (x ∷ vs) v =
    let other : List ℕ → Bool = λ w. not (bytes_eq w x) in
    ap (λ (ws : List (List ℕ)). x ∷ filter other ws) (once_more vs v)
    ∙ ap (λ (ws : List (List ℕ)). x ∷ ws) (filter-append other (each_once vs) (cond (is_among v vs) [] (v ∷ [])) ∙ ap (λ (ws : List (List ℕ)). filter other (each_once vs) ++ ws) (by_tests (is_among v vs) (bytes_eq v x) refl)) where
      by_tests : (among same : Bool) → bytes_eq v x ≡ same → filter (λ (w : List ℕ). not (bytes_eq w x)) (cond among [] (v ∷ [])) ≡ cond (same || among) [] (v ∷ [])
      by_tests true true is = refl
      by_tests true false is = refl
      by_tests false true is = rw is refl
      by_tests false false is = rw is refl

frame_of : List ℕ → List ℕ
frame_of v = text_of_frame (value_frame v)

text_more : (vs : List (List ℕ)) (v : List ℕ) → text_of_values (vs ++ v ∷ []) ≡ text_of_values vs ++ cond (is_among v vs) [] (text_of_frame (value_frame v))
unfolding frame_of
text_more vs v = ap (flat_map frame_of) (once_more vs v) ∙ flat_map-append frame_of (each_once vs) (cond (is_among v vs) [] (v ∷ [])) ∙ ap (λ (t : List ℕ). text_of_values vs ++ t) (by_test (is_among v vs)) where
  by_test : (among : Bool) → flat_map frame_of (cond among [] (v ∷ [])) ≡ cond among [] (text_of_frame (value_frame v))
  by_test true = refl
  by_test false = append-nil (text_of_frame (value_frame v))

-- the frames of more values follow those of others
frames_more : (vs xs : List (List ℕ)) → text_of_values (vs ++ xs) ≡ text_of_values vs ++ frames_behind vs xs
frames_more vs [] = ap text_of_values (append-nil vs) ∙ sym (append-nil (text_of_values vs))
frames_more vs (x ∷ xs) =
    let frame = cond (is_among x vs) [] (text_of_frame (value_frame x)) in
    ap text_of_values (sym (append_assoc vs (x ∷ []) xs)) ∙ frames_more (vs ++ x ∷ []) xs ∙ ap (λ (t : List ℕ). t ++ frames_behind (vs ++ x ∷ []) xs) (text_more vs x)
    ∙ append_assoc (text_of_values vs) frame (frames_behind (vs ++ x ∷ []) xs)

-- ---- changes

values_more : (cs : List Change) (i : ℕ) (c : Change) → i < length cs → c ≡ get_or cs i c → values_of (take (i + 1) cs) ≡ values_of (take i cs) ++ value_in_change c
values_more cs i c lt at =
    ap values_of (take_next cs i c lt at) ∙ flat_map-append value_in_change (take i cs) (c ∷ []) ∙ ap (λ (vs : List (List ℕ)). values_of (take i cs) ++ vs) (append-nil (value_in_change c))

-- one change more
pub change_written : (cs : List Change) (i : ℕ) (c : Change) (old before new : List ℕ) → i < length cs → c ≡ get_or cs i c → before ≡ old ++ text_of_values (values_of (take i cs))
    → new ≡ before ++ frames_behind (values_of (take i cs)) (value_in_change c) → new ≡ old ++ text_of_values (values_of (take (i + 1) cs))
change_written cs i c old before new lt at so_far written =
    let front = text_of_values (values_of (take i cs)) in
    let more = frames_behind (values_of (take i cs)) (value_in_change c) in
    written ∙ ap (λ (t : List ℕ). t ++ more) so_far ∙ append_assoc old front more
    ∙ ap (λ (t : List ℕ). old ++ t) (sym (frames_more (values_of (take i cs)) (value_in_change c)) ∙ ap text_of_values (sym (values_more cs i c lt at)))

-- a value is that of one of the changes where it is among their values
any_has_value : (cs : List Change) (v : List ℕ) → list_any (λ c. is_among v (value_in_change c)) cs ≡ is_among v (values_of cs)
any_has_value [] v = refl
any_has_value (c ∷ cs) v = ap (λ (b : Bool). is_among v (value_in_change c) || b) (any_has_value cs v) ∙ sym (among-append v (value_in_change c) (values_of cs))

-- a value that one of the changes has adds no frame after theirs, and another one its own
pub known_adds_none : (cs : List Change) (v out : List ℕ) → list_any (λ c. is_among v (value_in_change c)) cs ≡ true → out ≡ out ++ frames_behind (values_of cs) (v ∷ [])
known_adds_none cs v out is =
    let among : is_among v (values_of cs) ≡ true = sym (any_has_value cs v) ∙ is in
    rw among (sym (append-nil out))

pub new_adds_frame : (cs : List Change) (v old out : List ℕ) → list_any (λ c. is_among v (value_in_change c)) cs ≡ false → out ≡ old ++ text_of_frame (value_frame v) → out ≡ old ++ frames_behind (values_of cs) (v ∷ [])
new_adds_frame cs v old out is written =
    let among : is_among v (values_of cs) ≡ false = sym (any_has_value cs v) ∙ is in
    rw among (written ∙ ap (λ (t : List ℕ). old ++ t) (sym (append-nil (text_of_frame (value_frame v)))))
