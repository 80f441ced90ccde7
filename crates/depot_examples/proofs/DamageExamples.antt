-- Worked examples of files at a limit: a complete record that keeps a journal within its limits, and one that passes
-- them, which is damage.
--
-- Such files are too long to write out, so these are any records with the given counts.
use Rattle.std.proofs.Common.{◌≡◌, ◌≤◌, ℕ, ◌+◌, List, [], ◌∷◌, ◌++◌, length, length-append, refl, inr, arith}
use Rattle.depot_base.specs.Cursor.{numeral}
use Rattle.depot_base.specs.File.{blocks, framed, IsFileOf, IsDamagedAt}
use Rattle.depot_base.proofs.Blocks.{blocks-append}
use Rattle.depot_base.proofs.CallLaws.{framed_long}

-- these records, and one of the byte 7 after them
abbrev one_more : List (List ℕ) → List ℕ
one_more good = blocks good ++ 1 ∷ (framed (7 ∷ []) ++ 0 ∷ [])

-- as many records as a journal may have are its records
as_many_as_fit : (good : List (List ℕ)) → length good ≡ 131072 → 1 + length (blocks good) ≤ 1073741824 → IsFileOf (blocks good ++ 0 ∷ []) good
as_many_as_fit good many short = inr ((0, [], (λ is. absurd (omega (arith, is))), refl), record { records = omega (arith, many); bytes = short })

two_bytes : (good : List (List ℕ)) → 2 ≤ length (one_more good)
unfolding framed numeral
two_bytes good = omega (arith, length-append (blocks good) (1 ∷ (framed (7 ∷ []) ++ 0 ∷ [])))

-- one more is damage, where it starts
one_too_many : (good : List (List ℕ)) → length good ≡ 131072 → 1 + length (blocks good) ≤ 1073741824 → IsDamagedAt (one_more good) (length (blocks good))
one_too_many good many short = record {
  good = good;
  rest = framed (7 ∷ []) ++ 0 ∷ [];
  long = two_bytes good;
  within = record { records = omega (arith, many); bytes = short };
  parts = refl;
  place = refl;
  bad = λ body gate more fits is within. omega (arith, within.records, many, length-append good (body ∷ []));
}

-- so is a record with which the journal has too many bytes, though it has few records
too_long : (good : List (List ℕ)) → length good ≤ 5 → 1 + length (blocks good) ≤ 1073741824 → 1073741820 ≤ length (blocks good) → IsDamagedAt (one_more good) (length (blocks good))
too_long good few short full = record {
  good = good;
  rest = framed (7 ∷ []) ++ 0 ∷ [];
  long = two_bytes good;
  within = record { records = omega (arith, few); bytes = short };
  parts = refl;
  place = refl;
  bad = λ body gate more fits is within. (let five = five_bytes body in omega (arith, within.bytes, full, five, blocks-append good (body ∷ [])));
} where
  five_bytes : (body : List ℕ) → 5 ≤ length (blocks (body ∷ []))
  five_bytes body = omega (arith, framed_long body, length-append (framed body) [])
