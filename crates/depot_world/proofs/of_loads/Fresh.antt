-- Labels of a load: each is made once, since their ranks rise.
use Rattle.std.proofs.Common.{◌≡◌, ℕ, ◌+◌, ◌*◌, ◌^◌, ◌<◌, ◌≤◌, true, false, cond, eqb, List, [], ◌∷◌, ◌++◌, Option, Some, None, refl, ap, ◌∙◌, arith}
use Rattle.std.specs.Fmt.{decimal}
use Rattle.std.specs.Str.{bytes_eq}
use Rattle.std.proofs.lemmas.Bool.{false_from_ne_true}
use Rattle.std.proofs.lemmas.Fmt.{decimal_injective}
use Rattle.std.proofs.lemmas.Slice.Eq.{bytes_eq-Decides}
use Rattle.depot_schedule.specs.declared.event.Event.{Event}
use Rattle.depot_schedule.specs.declared.verb.Made.{Made}
use Rattle.depot_schedule.specs.declared.verb.Wanted.TheVariants as wanted
use Rattle.depot_schedule.specs.EventWords.{label_made, if_named, first_or, is_asked_for, meets, named_by}
use Rattle.depot_schedule.proofs.LabelSteps.{named_by-push}
use Rattle.depot_world.specs.Loads.{label_of}

-- ---- labels and their ranks

-- those of rounds by their round, then those of the exchanges at the end, then those of the last hellos
abbrev pub rank : ℕ → ℕ → ℕ
rank letter n =
    cond (eqb letter 104) (3 * n) (cond (eqb letter 98) (3 * n + 1) (cond (eqb letter 102) (3 * n + 2)
    (cond (eqb letter 101) (6000 + 2 * n) (cond (eqb letter 103) (6001 + 2 * n) (6079 + n)))))

-- no label of this rank or a higher one was made
abbrev pub IsFree : ℕ → List Event → Type 0
IsFree from es = (letter n : ℕ) → n < 2 ^ 32 → from ≤ rank letter n → named_by es (label_of letter n) ≡ None

-- labels of different ranks are different
apart : (c n d m : ℕ) → n < 2 ^ 32 → m < 2 ^ 32 → rank d m < rank c n → bytes_eq (label_of c n) (label_of d m) ≡ false
apart c n d m one two lt = false_from_ne_true _ (λ e.
    let same : label_of c n ≡ label_of d m = (bytes_eq-Decides (label_of c n) (label_of d m)).0 e in
    let letters : c ≡ d = cc in
    let digits : decimal n ≡ decimal m = cc in
    let numbers : n ≡ m = decimal_injective n m (omega arith) (omega arith) digits in
    let ranks : rank c n ≡ rank d m = ap (λ (x : ℕ). rank x n) letters ∙ ap (λ (x : ℕ). rank d x) numbers in
    below_itself (rank c n) (rank d m) ranks lt) where
      below_itself : (a b : ℕ) → a ≡ b → b < a → ⊥
      below_itself a b e lt = omega arith

pub free-none : IsFree 0 []
unfolding named_by
free-none letter n small from = refl

pub free-from : (k l : ℕ) (es : List Event) → k ≤ l → IsFree k es → IsFree l es
free-from k l es le free letter n small from = free letter n small (between k l (rank letter n) le from) where
  between : (a b c : ℕ) → a ≤ b → b ≤ c → a ≤ c
  between a b c p q = omega arith

-- an event that makes no label
pub free-more : (k : ℕ) (es : List Event) (e : Event) → label_made e ≡ None → IsFree k es → IsFree k (es ++ e ∷ [])
free-more k es e none free letter n small from =
    named_by-push es e (label_of letter n) ∙ ap (λ (o : Option (List ℕ × Made)). first_or (if_named (label_of letter n) o) (named_by es (label_of letter n))) none ∙ free letter n small from

-- an event that makes a label of this rank or a higher one
pub free-made : (k : ℕ) (es : List Event) (e : Event) (c m : ℕ) (made : Made) → label_made e ≡ Some (label_of c m, made) → m < 2 ^ 32 → k ≤ rank c m → IsFree k es → IsFree (rank c m + 1) (es ++ e ∷ [])
free-made k es e c m made is little from free letter n small above =
    let other : bytes_eq (label_of letter n) (label_of c m) ≡ false = apart letter n c m small little (higher (rank c m) (rank letter n) above) in
    let unnamed : if_named (label_of letter n) (Some (label_of c m, made)) ≡ None = rw other refl in
    named_by-push es e (label_of letter n)
    ∙ ap (λ (o : Option (List ℕ × Made)). first_or (if_named (label_of letter n) o) (named_by es (label_of letter n))) is
    ∙ ap (λ (o : Option Made). first_or o (named_by es (label_of letter n))) unnamed
    ∙ free letter n small (still k (rank c m) (rank letter n) from above) where
      higher : (a b : ℕ) → a + 1 ≤ b → a < b
      higher a b h = omega arith

      still : (a b d : ℕ) → a ≤ b → b + 1 ≤ d → a ≤ d
      still a b d p q = omega arith

-- ---- labels that were made

-- a label names bytes, of any kind
abbrev pub NamesBytes : List Event → List ℕ → Type 0
NamesBytes es label = meets wanted.Any (named_by es label) ≡ true

-- it does once an event made it name some
pub made-now : (es : List Event) (e : Event) (label : List ℕ) (made : Made) → label_made e ≡ Some (label, made) → is_asked_for wanted.Any made ≡ true → NamesBytes (es ++ e ∷ []) label
made-now es e label made is bytes =
    let same : bytes_eq label label ≡ true = (bytes_eq-Decides label label).1 refl in
    let named : if_named label (label_made e) ≡ Some made = rw (is, same) refl in
    rw (named_by-push es e label, named) bytes

-- and still after an event that makes no label
pub made-before : (es : List Event) (e : Event) (label : List ℕ) → label_made e ≡ None → NamesBytes es label → NamesBytes (es ++ e ∷ []) label
made-before es e label none names = rw (named_by-push es e label, none) names
