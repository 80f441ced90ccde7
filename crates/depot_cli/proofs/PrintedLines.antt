-- What is printed after a word, grouped either way.
use Rattle.std.proofs.Common.{◌≡◌, ℕ, List, ◌++◌, ap, sym, ◌∙◌, append_assoc}

-- three parts
pub behind_three : (front a b c d : List ℕ) → front ++ (a ++ (b ++ (c ++ d))) ≡ front ++ (a ++ b ++ c ++ d)
behind_three front a b c d = ap (λ (t : List ℕ). front ++ t) (sym (append_assoc a b (c ++ d)) ∙ sym (append_assoc (a ++ b) c d))
