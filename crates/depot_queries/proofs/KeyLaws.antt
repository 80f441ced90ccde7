-- Keys of receipts, by what follows their prefix.
use Rattle.std.proofs.Common.{◌≡◌, ◌∙◌, ◌+◌, ℕ, ◌==◌, Bool, true, false, List, length, take, drop, Option, Some, None, refl, sym, ap, arith}
use Rattle.std.specs.Option.{SomeIff}
use Rattle.std.specs.Prelude.{codes}
use Rattle.std.specs.Str.{bytes_eq}
use Rattle.std.proofs.lemmas.Bool.{and_left, and_right, eq-eqb, ne_eqb}
use Rattle.depot_model.specs.lists.Lists.{when}
use Rattle.depot_model.specs.worlds.Receipts.{receipt_of}

-- a key with another prefix is for no id
pub other_front : (key : List ℕ) → bytes_eq (take 8 key) (codes "receipt:") ≡ false → None ≡ receipt_of key
unfolding receipt_of
other_front key e = sym (ap (λ (b : Bool). when b (drop 8 key)) (and_right (length key == 40) _ e))

-- what follows the prefix is the id, where it has 32 bytes
pub behind_front : (key : List ℕ) (tail : List ℕ) (o : Option (List ℕ)) → bytes_eq (take 8 key) (codes "receipt:") ≡ true → tail ≡ drop 8 key → length tail + 8 ≡ length key → SomeIff o (length tail ≡ 32) tail → o ≡ receipt_of key
unfolding receipt_of
behind_front key tail None front is long other = sym (ap (λ (b : Bool). when b (drop 8 key)) (and_left (length key == 40) (bytes_eq (take 8 key) (codes "receipt:")) (ne_eqb (length key) 40 (λ all. other (omega (arith, all, long))))))
behind_front key tail (Some id) front is long some =
    let all : (length key == 40) ≡ true = eq-eqb (length key) 40 (omega (arith, long, some.0)) in
    ap (λ (x : List ℕ). Some x) (some.1 ∙ is) ∙ rw (all, front) refl

pub ruleset key_laws = (other_front, behind_front)
