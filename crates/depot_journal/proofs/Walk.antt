-- The records of a list that are appended one by one.
use Rattle.std.proofs.Common.{◌≡◌, ◌<◌, ◌≤◌, ◌⊎◌, inl, inr, ℕ, ◌+◌, List, [], ◌∷◌, ◌++◌, length, take, drop, get_or, refl, sym, ◌∙◌, ap, subst, arith, append_assoc, append-nil, take-append-drop}
use Rattle.std.proofs.lemmas.List.{take_more}
use Rattle.depot_base.specs.File.{StandsFor, blocks}
use Rattle.depot_base.proofs.Blocks.{blocks-append}
use Rattle.depot_journal.specs.WriteSteps.{IsBeforeOrAfter, StandsBetween, StandsTo}
use Rattle.depot_journal.proofs.RecordBlocks.{one_longer}

-- the gate after the records so far
pub gate_behind : (bytes bytes' : List ℕ) (old at front : List (List ℕ)) → bytes ≡ blocks old → bytes' ≡ blocks at → at ≡ old ++ front → length bytes' ≡ length bytes + length (blocks front)
gate_behind bytes bytes' old at front was is more = omega (arith, ap length was, ap length is, ap (λ (l : List (List ℕ)). length (blocks l)) more, blocks-append old front)

-- one record more of those that are counted
pub blocks_next : (texts : List (List ℕ)) (i : ℕ) → i < length texts → length (blocks (take (i + 1) texts)) ≡ length (blocks (take i texts)) + (5 + length (get_or texts i []))
blocks_next texts i h = sym (one_longer (length (blocks (take i texts))) (get_or texts i []) (take i texts) (take (i + 1) texts) refl (take_more texts i [] h))

-- a prefix is no longer than all
pub blocks_front : (texts : List (List ℕ)) (i : ℕ) → length (blocks (take i texts)) ≤ length (blocks texts)
blocks_front texts i = omega (arith, ap (λ (l : List (List ℕ)). length (blocks l)) (sym (take-append-drop i texts)), blocks-append (take i texts) (drop i texts))

-- the bytes of the next record come after
pub next_long : (texts : List (List ℕ)) (i : ℕ) (text : List ℕ) → take (i + 1) texts ≡ take i texts ++ text ∷ [] → length (blocks (take (i + 1) texts)) ≡ length (blocks (take i texts)) + (5 + length text)
next_long texts i text next = sym (one_longer (length (blocks (take i texts))) text (take i texts) (take (i + 1) texts) refl next)

-- the records with the next of them
pub bodies_next : (old at more new : List (List ℕ)) (text : List ℕ) (i : ℕ) → at ≡ old ++ take i new → take (i + 1) new ≡ take i new ++ text ∷ [] → more ≡ at ++ text ∷ [] → more ≡ old ++ take (i + 1) new
bodies_next old at more new text i was next is = is ∙ ap (λ (l : List (List ℕ)). l ++ text ∷ []) was ∙ append_assoc old (take i new) (text ∷ []) ∙ ap (λ (l : List (List ℕ)). old ++ l) (sym next)

pub stands_of : (file : List ℕ) (bodies : List (List ℕ)) (end : ℕ) → StandsTo file bodies end → StandsFor file bodies
stands_of file bodies end (gate, rest, closed, parts, at) = (gate, rest, closed, parts)

-- before the first of them
pub between_first : (file image : List ℕ) (old new : List (List ℕ)) (end : ℕ) → StandsTo file old end → image ≡ file → StandsBetween old new image
between_first file image old new end stands e = record {
  count = 0;
  stands = subst (λ (l : List ℕ). StandsFor l (old ++ [])) (sym e) (subst (λ (l : List (List ℕ)). StandsFor file l) (sym (append-nil old)) (stands_of file old end stands));
}

-- with the next of them, or without it
pub next_stands : (image : List ℕ) (old new texts : List (List ℕ)) (text : List ℕ) (i : ℕ) → texts ≡ old ++ take i new → take (i + 1) new ≡ take i new ++ text ∷ [] → IsBeforeOrAfter texts (text ∷ []) image → StandsFor image texts ⊎ StandsFor image (old ++ take (i + 1) new)
next_stands image old new texts text i was next (inl s) = inl s
next_stands image old new texts text i was next (inr s) =
    inr (subst (λ (l : List (List ℕ)). StandsFor image l) (ap (λ (l : List (List ℕ)). l ++ text ∷ []) was ∙ append_assoc old (take i new) (text ∷ []) ∙ ap (λ (l : List (List ℕ)). old ++ l) (sym next)) s)

-- at the next of them
pub between : (image : List ℕ) (old new texts : List (List ℕ)) (text : List ℕ) (i : ℕ) → texts ≡ old ++ take i new → take (i + 1) new ≡ take i new ++ text ∷ [] → IsBeforeOrAfter texts (text ∷ []) image → StandsBetween old new image
between image old new texts text i was next s = elim (next_stands image old new texts text i was next s) [
  | inl p ↦ record { count = i; stands = subst (λ (l : List (List ℕ)). StandsFor image l) was p }
  | inr p ↦ record { count = i + 1; stands = p }
]
