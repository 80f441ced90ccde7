-- The pairs of a list, by cases on the list.
use Rattle.std.specs.Prelude.{List, [], ◌∷◌}
use Rattle.std.specs.List.{AllByRecursion}

-- this holds of each and each that comes after it, in this order
abbrev pub AllPairsByRecursion : {X : Type 0} → (X → X → Type 0) → List X → Type 0
AllPairsByRecursion R [] = Unit {0}
AllPairsByRecursion R (x ∷ xs) = AllByRecursion (R x) xs × AllPairsByRecursion R xs
