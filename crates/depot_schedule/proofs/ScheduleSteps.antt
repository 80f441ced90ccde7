-- Schedules, written one line after the other.
use Rattle.std.proofs.Common.{◌≡◌, ℕ, List, [], ◌++◌, map, sym, ap, ◌∙◌, append_assoc}
use Rattle.std.specs.List.{flat_map}
use Rattle.std.proofs.lemmas.Grind.{flat_map-append}
use Rattle.std.proofs.lemmas.List.Folds.{flat_map-map}
use Rattle.depot_schedule.specs.declared.schedule.Schedule.{Schedule}
use Rattle.depot_schedule.specs.Schedules.{first_words, scheme_words, member_words, event_words, text_of_schedule}
use Rattle.depot_lines.specs.LineTexts.{text_of_line}

-- lines of one kind, and lines of another after them
pub flat_map-two : {A B C : Type 0} (line : C → List ℕ) (f : A → C) (g : B → C) (xs : List A) (ys : List B) → flat_map line (map f xs ++ map g ys) ≡ flat_map (λ x. line (f x)) xs ++ flat_map (λ y. line (g y)) ys
flat_map-two line f g xs ys = flat_map-append line (map f xs) (map g ys) ∙ ap (λ (t : List ℕ). t ++ flat_map line (map g ys)) (flat_map-map line f xs) ∙ ap (λ (t : List ℕ). flat_map (λ x. line (f x)) xs ++ t) (flat_map-map line g ys)

-- the lines of a schedule, written one after the other
pub schedule-written : (s : Schedule) (before first second third fourth : List ℕ) → before ≡ [] → first ≡ before ++ text_of_line first_words → second ≡ first ++ text_of_line (scheme_words s)
    → third ≡ second ++ flat_map (λ m. text_of_line (member_words m)) s.members → fourth ≡ third ++ flat_map (λ e. text_of_line (event_words e)) s.events → fourth ≡ text_of_schedule s
unfolding text_of_schedule
schedule-written s before first second third fourth none one two three four =
    let start = text_of_line first_words in
    let scheme = text_of_line (scheme_words s) in
    let members = flat_map (λ m. text_of_line (member_words m)) s.members in
    let events = flat_map (λ e. text_of_line (event_words e)) s.events in
    let begun : first ≡ start = one ∙ ap (λ (t : List ℕ). t ++ start) none in
    four
    ∙ ap (λ (t : List ℕ). t ++ events) (three ∙ ap (λ (t : List ℕ). t ++ members) (two ∙ ap (λ (t : List ℕ). t ++ scheme) begun))
    ∙ append_assoc (start ++ scheme) members events
    ∙ append_assoc start scheme (members ++ events)
    ∙ ap (λ (t : List ℕ). start ++ (scheme ++ t)) (sym (flat_map-two text_of_line member_words event_words s.members s.events))
