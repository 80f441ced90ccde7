-- A piece that goes out in several writes.
use Rattle.std.proofs.Common.{◌≡◌, ℕ, ◌-◌, List, ◌++◌, length, take, drop, Option, sym, ap, ◌∙◌, subst, arith, append_assoc, take-append-drop}
use Rattle.std.proofs.lemmas.List.{take_rest, take-append-le, take_all}
use Rattle.std.proofs.KnownBytes.{Appends-trans, Appends-kept}
use Rattle.std.specs.Io.KnownBytes.{Appends, Keeps}

-- a prefix of the piece went out, and this is left of it
pub record HasWritten (old new : Option (List ℕ)) (piece left : List ℕ) : Type 0 where
  pub front : List ℕ
  pub split : piece ≡ front ++ left
  pub appended : Appends old new front

-- n bytes more went out
pub more_written : (old mid new : Option (List ℕ)) (piece left : List ℕ) (n : ℕ) → HasWritten old mid piece left → Appends mid new (take n left) → HasWritten old new piece (take (length left - n) (drop n left))
more_written old mid new piece left n w a = record {
  front = w.front ++ take n left;
  split = w.split ∙ ap (λ l. w.front ++ l) (sym (take-append-drop n left)) ∙ sym (append_assoc w.front (take n left) (drop n left)) ∙ ap (λ l. (w.front ++ take n left) ++ l) (sym (take_rest left n));
  appended = Appends-trans old mid new w.front (take n left) w.appended a;
}

-- a write that failed wrote nothing
pub none_written : (old mid new : Option (List ℕ)) (piece left : List ℕ) → HasWritten old mid piece left → Keeps mid new → HasWritten old new piece left
none_written old mid new piece left w k = record { front = w.front; split = w.split; appended = Appends-kept old mid new w.front w.appended k }

-- what went out is a prefix of the piece
pub front_written : (old new : Option (List ℕ)) (piece left : List ℕ) → HasWritten old new piece left → (n : ℕ) × Appends old new (take n piece)
front_written old new piece left w =
    let first : take (length w.front) piece ≡ w.front = ap (take (length w.front)) w.split ∙ take-append-le (length w.front) w.front left (omega arith) ∙ take_all (length w.front) w.front (omega arith) in
    (length w.front, subst (Appends old new) (sym first) w.appended)
