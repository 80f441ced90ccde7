-- Bytes are messages in one way.
use Rattle.std.proofs.Common.{◌≡◌, ℕ, ◌+◌, List, [], ◌∷◌, ◌++◌, append_assoc, length, length-append, refl, sym, ap, ◌∙◌, arith}
use Rattle.std.specs.Int.{w32, from_be_bytes}
use Rattle.std.specs.List.{flat_map}
use Rattle.depot_source.specs.Messages.{AreMessages, IsMessage, Message, text_of_message}

-- what is before as many bytes is the same
front_is_one : (a b r s : List ℕ) → length a ≡ length b → a ++ r ≡ b ++ s → (a ≡ b) × (r ≡ s)
front_is_one [] [] r s long is = (refl, is)
front_is_one [] (y ∷ b) r s long is = absurd cc
front_is_one (x ∷ a) [] r s long is = absurd cc
front_is_one (x ∷ a) (y ∷ b) r s long is =
    let one : x ≡ y = cc in
    let rest : a ++ r ≡ b ++ s = cc in
    let p = front_is_one a b r s (omega (arith, long)) rest in
    (cc, p.1)

first_is_one : (f g : Message) (r s : List ℕ) → IsMessage f → IsMessage g → text_of_message f ++ r ≡ text_of_message g ++ s → (f ≡ g) × (r ≡ s)
first_is_one f g r s is_f is_g same =
    let heads = front_is_one f.head g.head (f.body ++ r) (g.body ++ s) (is_f.head ∙ sym is_g.head) (sym (append_assoc f.head f.body r) ∙ same ∙ append_assoc g.head g.body s) in
    let long : length f.body ≡ length g.body = sym is_f.says ∙ ap (from_be_bytes w32) heads.0 ∙ is_g.says in
    let bodies = front_is_one f.body g.body r s long heads.1 in
    (ap (λ (h : List ℕ). record { head = h; body = f.body }) heads.0 ∙ ap (λ (b : List ℕ). record { head = g.head; body = b }) bodies.0, bodies.1)

never_empty : (f : Message) (r : List ℕ) → IsMessage f → [] ≡ text_of_message f ++ r → ⊥
never_empty f r is same = let long : 0 ≡ length (f.head ++ f.body) + length r = ap length same ∙ length-append (f.head ++ f.body) r in omega (arith, long, length-append f.head f.body, is.head)

pub messages_are_one : (fs gs : List Message) → AreMessages fs → AreMessages gs → flat_map text_of_message fs ≡ flat_map text_of_message gs → fs ≡ gs
messages_are_one [] [] are_f are_g same = refl
messages_are_one [] (g ∷ gs) are_f are_g same = absurd (never_empty g (flat_map text_of_message gs) are_g.0 same)
messages_are_one (f ∷ fs) [] are_f are_g same = absurd (never_empty f (flat_map text_of_message fs) are_f.0 (sym same))
messages_are_one (f ∷ fs) (g ∷ gs) are_f are_g same =
    let p = first_is_one f g (flat_map text_of_message fs) (flat_map text_of_message gs) are_f.0 are_g.0 same in
    let rest = messages_are_one fs gs are_f.1 are_g.1 p.1 in
    cc
