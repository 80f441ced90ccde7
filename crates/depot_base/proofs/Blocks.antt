-- Records one after another in a file.
use Rattle.std.proofs.Common.{◌≡◌, ℕ, ◌+◌, List, [], ◌∷◌, ◌++◌, length, length-append, arith}
use Rattle.depot_base.specs.File.{blocks, framed}

-- the records of two lists are as long as those of one and those of the other
pub blocks-append : (xs ys : List (List ℕ)) → length (blocks (xs ++ ys)) ≡ length (blocks xs) + length (blocks ys)
blocks-append [] ys = omega arith
blocks-append (x ∷ xs) ys = omega (arith, blocks-append xs ys, length-append (framed x) (blocks (xs ++ ys)), length-append (framed x) (blocks xs))
