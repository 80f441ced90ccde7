-- The ids that no own voucher names, one after another.
use Rattle.std.proofs.Common.{◌≡◌, ℕ, ◌+◌, ◌<◌, length, take, get_or, List, [], ◌∷◌, ◌++◌, Bool, true, false, not, cond, sym, ap, ◌∙◌}
use Rattle.std.specs.List.{filter}
use Rattle.std.proofs.lemmas.List.{append-nil}
use Rattle.std.proofs.lemmas.List.Elements.{filter-append}
use Rattle.depot_base.specs.declared.record.Record.{Record}
use Rattle.depot_model.specs.checks.Vouching.{is_mine_vouched}
use Rattle.depot_base.proofs.GeneralLaws.{take_next}

abbrev left_of : List Record → List (List ℕ) → List (List ℕ)
left_of J hs = filter (λ (i : List ℕ). not (is_mine_vouched J i)) hs

pub left_same : (J : List Record) (left : List (List ℕ)) (i : List ℕ) → is_mine_vouched J i ≡ true → left ≡ left ++ left_of J (i ∷ [])
left_same J left i e = sym (append-nil left) ∙ ap (λ (b : Bool). left ++ cond (not b) (i ∷ []) []) (sym e)

pub left_more : (J : List Record) (left new : List (List ℕ)) (i : List ℕ) → is_mine_vouched J i ≡ false → new ≡ left ++ i ∷ [] → new ≡ left ++ left_of J (i ∷ [])
left_more J left new i e is = is ∙ ap (λ (b : Bool). left ++ cond (not b) (i ∷ []) []) (sym e)

pub left_push : (J : List Record) (xs left new : List (List ℕ)) (i : ℕ) (x : List ℕ) → i < length xs → x ≡ get_or xs i x → left ≡ left_of J (take i xs) → new ≡ left ++ left_of J (x ∷ []) → new ≡ left_of J (take (i + 1) xs)
left_push J xs left new i x lt is before more =
    let front = take_next xs i x lt is in
    more ∙ ap (λ (hs : List (List ℕ)). hs ++ left_of J (x ∷ [])) before ∙ sym (ap (left_of J) front ∙ filter-append (λ (k : List ℕ). not (is_mine_vouched J k)) (take i xs) (x ∷ []))
