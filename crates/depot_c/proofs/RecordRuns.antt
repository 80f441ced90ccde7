-- Records that are lent one by one.
use Rattle.std.proofs.Common.{◌≡◌, ◌∙◌, ℕ, zero, suc, ◌<◌, ◌≤◌, ◌+◌, ◌^◌, List, [], ◌∷◌, ◌++◌, drop, length, map, Some, append_assoc, arith, ap, sym}
use Rattle.std.specs.Prelude.{slice_get, sum_by}
use Rattle.std.proofs.lemmas.List.Sums.{sum_by-cons}
use Rattle.depot_base.specs.File.{blocks, framed}
use Rattle.depot_base.specs.declared.record.Record.{Record}
use Rattle.depot_laws.proofs.own_updates.OwnTexts.{lawful_is_light}
use Rattle.depot_model.proofs.lists.Elements.{from_place}
use Rattle.depot_model.specs.checks.Checks.{Setting}
use Rattle.depot_model.specs.journals.Lawful.{IsLawful}
use Rattle.depot_model.specs.texts.Records.{text_of_record}

-- one more record stands behind those that were added
pub one_more : (run : List ℕ) (texts : List (List ℕ)) (at : ℕ) (text : List ℕ) → slice_get texts at ≡ Some text → (run ++ 1 ∷ framed text) ++ blocks (drop (at + 1) texts) ≡ run ++ blocks (drop at texts)
one_more run texts at text is = append_assoc run (1 ∷ framed text) (blocks (drop (at + 1) texts)) ∙ ap (λ (l : List (List ℕ)). run ++ blocks l) (sym (from_place texts at text is))

-- a record's text is no longer than the bytes of all
within_all : (J : List Record) (at : ℕ) (text : List ℕ) → slice_get (map text_of_record J) at ≡ Some text → length text ≤ sum_by (λ r. 5 + length (text_of_record r)) J
within_all [] at text is = absurd cc
within_all (r ∷ J) zero text is =
    let same : text_of_record r ≡ text = cc in
    let long = ap (λ (t : List ℕ). length t) same in
    omega (arith, long, sum_by-cons (λ (x : Record). 5 + length (text_of_record x)) r J)
within_all (r ∷ J) (suc at) text is =
    let rest = within_all J at text is in
    omega (arith, rest, sum_by-cons (λ (x : Record). 5 + length (text_of_record x)) r J)

-- so the length of the text of a record of a lawful journal has a place in four bytes
pub has_length : (here : Setting) (J : List Record) (at : ℕ) (text : List ℕ) → IsLawful here J → slice_get (map text_of_record J) at ≡ Some text → length text < 2 ^ 32
has_length here J at text lawful is = let one = within_all J at text is in let all = lawful_is_light here J lawful in omega (arith, one, all)
