-- Reading the parts of a word one after the other.
use Rattle.std.proofs.Common.{◌≡◌, Bool, true, false, leb, List, [], ◌∷◌, ◌++◌, Option, Some, None, Result, Ok, Err, refl, sym, ap, ◌∙◌, arith, append_assoc}
use Rattle.std.proofs.lemmas.Bool.{leb-true, le-leb, false_from_ne_true, leb-false}
use Rattle.depot_lines.specs.declared.line_fault.LineFault.{LineFault}
use Rattle.depot_lines.specs.Language.{rank_of, earlier, with_parts}
use Rattle.depot_lines.specs.LineReading.{gathered, GathersMore}

-- which of three is looked for first does not hang on how they are grouped
earlier_assoc : (f g h : LineFault) → earlier f (earlier g h) ≡ earlier (earlier f g) h
earlier_assoc f g h = by (leb (rank_of f) (rank_of g)) (leb (rank_of g) (rank_of h)) refl refl where
  by : (a b : Bool) → leb (rank_of f) (rank_of g) ≡ a → leb (rank_of g) (rank_of h) ≡ b → earlier f (earlier g h) ≡ earlier (earlier f g) h
  by true true x y =
      let le : leb (rank_of f) (rank_of h) ≡ true = le-leb _ _ (omega (arith, leb-true _ _ x, leb-true _ _ y)) in
      rw (x, y) (rw (x, le) refl)
  by true false x y = rw (x, y) refl
  by false true x y = rw (x, y) (rw x refl)
  by false false x y =
      let lt : leb (rank_of f) (rank_of h) ≡ false = false_from_ne_true _ (λ t. let le = leb-true _ _ t in omega (arith, leb-false _ _ x, leb-false _ _ y, le)) in
      rw (x, y) (rw lt refl)

abbrev pub ok : {A : Type 0} → A → Result A LineFault
ok x = Ok x

abbrev fails : {A : Type 0} → LineFault → Result A LineFault
fails f = Err f

moved : {A : Type 0} (fault2 fault3 : Option LineFault) (front2 front3 : List A) (rest : Result (List A) LineFault) → fault2 ≡ fault3 → front2 ≡ front3 → gathered fault2 front2 rest ≡ gathered fault3 front3 rest
moved {A = A} fault2 fault3 front2 front3 rest p q = ap (λ (f : Option LineFault). gathered f front2 rest) p ∙ ap (λ (l : List A). gathered fault3 l rest) q

pub gathers_more : {A : Type 0} (fault : Option LineFault) (front : List A) (r : Result A LineFault) (fault2 : Option LineFault) (front2 : List A) (rest : Result (List A) LineFault)
    → GathersMore fault front r fault2 front2 → gathered fault2 front2 rest ≡ gathered fault front (with_parts r rest)
gathers_more {A = A} None front (Ok a) fault2 front2 (Ok rest) h = moved fault2 None front2 (front ++ a ∷ []) (Ok rest) h.0 h.1 ∙ ap (λ (l : List A). ok l) (append_assoc front (a ∷ []) rest)
gathers_more None front (Ok a) fault2 front2 (Err g) h = moved fault2 None front2 (front ++ a ∷ []) (Err g) h.0 h.1
gathers_more (Some f) front (Ok a) fault2 front2 (Ok rest) h = moved fault2 (Some f) front2 (front ++ a ∷ []) (Ok rest) h.0 h.1
gathers_more (Some f) front (Ok a) fault2 front2 (Err g) h = moved fault2 (Some f) front2 (front ++ a ∷ []) (Err g) h.0 h.1
gathers_more None front (Err g) fault2 front2 (Ok rest) h = moved fault2 (Some g) front2 front (Ok rest) h.0 h.1
gathers_more None front (Err g) fault2 front2 (Err k) h = moved fault2 (Some g) front2 front (Err k) h.0 h.1
gathers_more (Some f) front (Err g) fault2 front2 (Ok rest) h = moved fault2 (Some (earlier f g)) front2 front (Ok rest) h.0 h.1
gathers_more {A = A} (Some f) front (Err g) fault2 front2 (Err k) h = moved fault2 (Some (earlier f g)) front2 front (Err k) h.0 h.1 ∙ ap (λ (x : LineFault). fails {A = List A} x) (sym (earlier_assoc f g k))
