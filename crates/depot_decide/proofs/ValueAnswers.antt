-- What a node decides of a value.
use Rattle.std.proofs.Common.{◌≡◌, ℕ, ◌<◌, ◌≤◌, Bool, true, false, cond, ◌||◌, List, [], ◌∷◌, length, Option, Some, None, Result, Ok, Err, Bor, refl, sym, ap, ◌∙◌}
use Rattle.std.specs.List.{list_any}
use Rattle.std.specs.Option.{is_some, option_copied}
use Rattle.std.specs.Str.{bytes_eq}
use Rattle.sha2.specs.Sha256.{sha256}
use Rattle.depot_base.specs.Closed.{rest_of}
use Rattle.depot_base.specs.declared.check.Check.{Check}
use Rattle.depot_base.specs.declared.check.Check.TheVariants as check
use Rattle.depot_base.specs.declared.record.Record.{Record}
use Rattle.depot_base.specs.declared.record.Record.TheVariants.{Held}
use Rattle.depot_model.specs.declared.taken.Taken.{Taken}
use Rattle.depot_model.specs.declared.taken.Taken.TheVariants.{New, Known}
use Rattle.depot_model.specs.checks.Checks.{Setting, given_value, first_failed_check, is_known, answer_to, added}
use Rattle.depot_model.specs.journals.Journal.{accepted, held, value_with, holds_hash, is_wanted}
use Rattle.depot_decide.specs.Deciding.{IsDecided, DecidesValue}
use Rattle.depot_decide.proofs.Decided.{decided_by, decides_given}

-- ---- what is held

-- there is a value with a hash where one of them has it
some_value : (h : List ℕ) (vs : List (List ℕ)) → is_some (value_with h vs) ≡ list_any (λ v. bytes_eq (sha256 v) h) vs
some_value h [] = refl
some_value h (v ∷ vs) = by_test (bytes_eq (sha256 v) h) (some_value h vs) where
  by_test : (b : Bool) → is_some (value_with h vs) ≡ list_any (λ w. bytes_eq (sha256 w) h) vs → is_some (cond b (Some v) (value_with h vs)) ≡ (b || list_any (λ w. bytes_eq (sha256 w) h) vs)
  by_test true later = refl
  by_test false later = later

some_copied : (o : Option (Bor (List ℕ))) → is_some (option_copied o) ≡ is_some o
some_copied None = refl
some_copied (Some x) = refl

-- whether a value with this hash is held, as it was looked up
pub hash_is_held : (J : List Record) (v h : List ℕ) (found : Option (Bor (List ℕ))) (told is : Bool) → h ≡ sha256 v → option_copied found ≡ value_with h (held J) → told ≡ is_some found → told ≡ is → holds_hash J (sha256 v) ≡ is
unfolding holds_hash
hash_is_held J v h found told is hash e some answer =
    ap (holds_hash J) (sym hash) ∙ sym (some_value h (held J)) ∙ ap (λ (o : Option (List ℕ)). is_some o) (sym e) ∙ some_copied found ∙ sym some ∙ answer

-- whether it is wanted, as it was looked up
pub hash_is_wanted : (J : List Record) (v h : List ℕ) (told is : Bool) → h ≡ sha256 v → told ≡ is_wanted (accepted J) h (length v) → told ≡ is → is_wanted (accepted J) (sha256 v) (length v) ≡ is
hash_is_wanted J v h told is hash wanted answer = ap (λ (x : List ℕ). is_wanted (accepted J) x (length v)) (sym hash) ∙ sym wanted ∙ answer

-- ---- the answer

when_held : (here : Setting) (J : List Record) (v : List ℕ) → holds_hash J (sha256 v) ≡ true → answer_to here J (given_value v) ≡ Ok Known
unfolding answer_to is_known
when_held here J v held = rw held refl

when_unwanted : (here : Setting) (J : List Record) (v : List ℕ) → holds_hash J (sha256 v) ≡ false → is_wanted (accepted J) (sha256 v) (length v) ≡ false → answer_to here J (given_value v) ≡ Err (check.Unwanted (sha256 v))
unfolding answer_to is_known first_failed_check
when_unwanted here J v free unwanted = rw (free, unwanted) refl

when_wanted : (here : Setting) (J : List Record) (v : List ℕ) → holds_hash J (sha256 v) ≡ false → is_wanted (accepted J) (sha256 v) (length v) ≡ true → answer_to here J (given_value v) ≡ Ok New
unfolding answer_to is_known first_failed_check
when_wanted here J v free wanted = rw (free, wanted) refl

-- ---- what is decided; the value is made of the bytes that are given

-- a value of its hash is held
pub value_known : (here : Setting) (J : List Record) (v : List ℕ) → holds_hash J (sha256 v) ≡ true → IsDecided here J (given_value v) (Ok Known) []
value_known here J v held = decided_by here J (given_value v) (Ok Known) [] (when_held here J v held) refl

-- none is, and no update names it
pub value_unwanted : (here : Setting) (J : List Record) (v h : List ℕ) → h ≡ sha256 v → holds_hash J (sha256 v) ≡ false → is_wanted (accepted J) (sha256 v) (length v) ≡ false → IsDecided here J (given_value v) (Err (check.Unwanted h)) []
value_unwanted here J v h hash free unwanted =
    decided_by here J (given_value v) (Err (check.Unwanted h)) [] (when_unwanted here J v free unwanted ∙ ap (λ (x : List ℕ). Err (check.Unwanted x)) (sym hash)) refl

-- one names it
pub value_new : (here : Setting) (J : List Record) (v made : List ℕ) → made ≡ v → holds_hash J (sha256 v) ≡ false → is_wanted (accepted J) (sha256 v) (length v) ≡ true → IsDecided here J (given_value v) (Ok New) (Held made ∷ [])
unfolding added
value_new here J v made same free wanted = decided_by here J (given_value v) (Ok New) (Held made ∷ []) (when_wanted here J v free wanted) (ap (λ (x : List ℕ). Held x ∷ []) (sym same))

-- ---- its text

-- a text that is too long is no value's
pub too_long : (here : Setting) (J : List Record) (text : List ℕ) → 65536 < length text → DecidesValue here J text (Err (check.IllFormed 65536)) []
unfolding rest_of
too_long here J text long = ((long, refl), refl)

-- and any other is that of the value of the same bytes
pub decides_value : (here : Setting) (J : List Record) (text : List ℕ) (answer : Result Taken Check) (new : List Record) → length text ≤ 65536 → IsDecided here J (given_value text) answer new → DecidesValue here J text answer new
unfolding rest_of
decides_value here J text answer new short d = decides_given (rest_of 65536) (λ v. given_value v) here J text text answer new short refl d
