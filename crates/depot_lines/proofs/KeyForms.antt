-- Keys in the form of a receipt's or of a checkpoint's, which no put may be asked to write.
use Rattle.std.proofs.Common.{◌≡◌, ◌∙◌, ℕ, ◌+◌, ◌==◌, ◌&&◌, ◌||◌, Bool, true, false, not, List, length, take, drop, Option, Some, None, is_some, refl, sym, ap, arith}
use Rattle.std.specs.Prelude.{codes}
use Rattle.std.specs.Str.{bytes_eq}
use Rattle.std.proofs.lemmas.Bool.{and_right, eq-eqb, eqb-true}
use Rattle.depot_base.proofs.GeneralLaws.{same_test}
use Rattle.depot_model.specs.readers.Checkpoints.{is_checkpoint_key}
use Rattle.depot_model.specs.lists.Lists.{when}
use Rattle.depot_model.specs.worlds.Receipts.{receipt_of}

some_when : (b : Bool) (h : List ℕ) → b ≡ is_some (when b h)
some_when true h = refl
some_when false h = refl

with_true : (b : Bool) → (b && true) ≡ b
with_true true = refl
with_true false = refl

-- 32 bytes follow a prefix where the key is so much longer than that
long_behind : (front : ℕ) (key : List ℕ) (tail : List ℕ) → length tail + front ≡ length key → (length tail == 32) ≡ (length key == front + 32)
long_behind front key tail long = same_test (length tail == 32) (length key == front + 32)
    (λ e. eq-eqb (length key) (front + 32) (omega (arith, eqb-true (length tail) 32 e, long)))
    (λ e. eq-eqb (length tail) 32 (omega (arith, eqb-true (length key) (front + 32) e, long)))

-- ---- receipts

-- the form by its length and its prefix
form_is : (key : List ℕ) → ((length key == 40) && bytes_eq (take 8 key) (codes "receipt:")) ≡ is_some (receipt_of key)
unfolding receipt_of
form_is key = some_when ((length key == 40) && bytes_eq (take 8 key) (codes "receipt:")) (drop 8 key)

-- a key with another prefix isn't in the form
pub other_front : (key : List ℕ) → bytes_eq (take 8 key) (codes "receipt:") ≡ false → false ≡ is_some (receipt_of key)
other_front key e = sym (and_right (length key == 40) (bytes_eq (take 8 key) (codes "receipt:")) e) ∙ form_is key

-- one with that prefix is where 32 bytes follow it
pub behind_front : (key : List ℕ) (tail : List ℕ) → bytes_eq (take 8 key) (codes "receipt:") ≡ true → tail ≡ drop 8 key → length tail + 8 ≡ length key → (length tail == 32) ≡ is_some (receipt_of key)
behind_front key tail front is long = long_behind 8 key tail long ∙ sym (ap (λ (b : Bool). (length key == 40) && b) front ∙ with_true (length key == 40)) ∙ form_is key

pub ruleset key_laws = (other_front, behind_front)

-- ---- checkpoints

-- a key with another prefix isn't in the form
pub other_checkpoint_front : (key : List ℕ) → bytes_eq (take 11 key) (codes "checkpoint:") ≡ false → false ≡ is_checkpoint_key key
unfolding is_checkpoint_key
other_checkpoint_front key e = sym (and_right (length key == 43) (bytes_eq (take 11 key) (codes "checkpoint:")) e)

-- one with that prefix is where 32 bytes follow it
pub behind_checkpoint_front : (key : List ℕ) (tail : List ℕ) → bytes_eq (take 11 key) (codes "checkpoint:") ≡ true → tail ≡ drop 11 key → length tail + 11 ≡ length key → (length tail == 32) ≡ is_checkpoint_key key
unfolding is_checkpoint_key
behind_checkpoint_front key tail front is long = long_behind 11 key tail long ∙ sym (ap (λ (b : Bool). (length key == 43) && b) front ∙ with_true (length key == 43))

-- ---- keys of neither form

-- a key that a node may be asked to write is that of no receipt
pub plain_key : (key : List ℕ) → not (is_some (receipt_of key) || is_checkpoint_key key) ≡ true → receipt_of key ≡ None
plain_key key plain = of (receipt_of key) plain where
  of : (o : Option (List ℕ)) → not (is_some o || is_checkpoint_key key) ≡ true → o ≡ None
  of None e = refl
  of (Some h) e = absurd cc
