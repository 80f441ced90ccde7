-- A write names a hash and a length together: of two writes of one update neither lends the other its length.
use Rattle.std.proofs.Common.{◌≡◌, [], ◌∷◌, true, false, refl}
use Rattle.depot_base.specs.Zeros.{zeros}
use Rattle.depot_base.specs.declared.update.Update.{Update}
use Rattle.depot_base.specs.declared.write.Wrote.TheVariants.{Put}
use Rattle.depot_model.specs.texts.Contents.{names_value}
use Rattle.depot_model.proofs.examples.Cast.{mark}

-- a value of one byte under the one key, and one of two bytes under the other
abbrev two_sizes : Update
two_sizes = record { writer = 1; seq = 0; clock = 1; prev = zeros; writes = record { key = 107 ∷ []; what = Put (mark 1) 1 } ∷ record { key = 108 ∷ []; what = Put (mark 2) 2 } ∷ []; deps = []; history = zeros }

record Together : Type 0 where
  pub first : names_value two_sizes (mark 1) 1 ≡ true
  pub second : names_value two_sizes (mark 2) 2 ≡ true
  pub first_with_other : names_value two_sizes (mark 1) 2 ≡ false
  pub second_with_other : names_value two_sizes (mark 2) 1 ≡ false

together : Together
together = record { first = refl; second = refl; first_with_other = refl; second_with_other = refl }
