use Rattle.std.proofs.Common.{arith, refl}
use Rattle.depot_winter.proofs.SmallerLaws.{equal_where_none}
use Rattle.depot_winter.proofs.base16.smaller_digit.Goals as goal

pub returns-clause-none : goal.returns-clause-none
returns-clause-none c =
    let first = c.digits-first_digits.ensures in
    let second = c.digits-second_digits.ensures in
    let equal = equal_where_none _ _ _ _ _ first.value second.value (omega arith) (omega arith) first.base second.base c.loop-place-test.false c.loop-place.invariant in
    ((λ _. equal), (λ _. refl))
