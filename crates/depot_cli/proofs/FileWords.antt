-- Words that are names of files, one after the other.
use Rattle.std.proofs.Common.{◌≡◌, Bool, true, false, Some}
use Rattle.depot_model.specs.lists.Lists.{when}

-- what is kept is it
pub is_kept : {X : Type 0} (test : Bool) (x y : X) → when test x ≡ Some y → y ≡ x
is_kept true x y e = cc
is_kept false x y e = absurd cc
