use Rattle.std.proofs.Common.{◌<◌, length, sym, ◌∙◌, arith}
use Rattle.depot_lines.proofs.DigitSteps.{room_for_digit, below_power, digit_is_small, reads_next, reads_all}
use Rattle.depot_lines.proofs.spelling.value_of.Goals as goal

pub loop-digit-preserved : goal.loop-digit-preserved
loop-digit-preserved c =
    let lt : c.loop-digit.digit-index < length c.args.digits.now = omega arith in
    let small : c.from.result < 10 = rw c.from.ensures (digit_is_small c.args.digits.now c.loop-digit.digit-index c.requires lt) in
    let next = reads_next c.args.digits.now c.loop-digit.digit-index c.loop-digit.value lt in
    record {
      below = below_power c.loop-digit.value c.from.result c.loop-digit.digit-index c.loop-digit.invariant.below small;
      rest = rw c.from.ensures (sym next ∙ c.loop-digit.invariant.rest);
    }

pub returns : goal.returns
returns c = sym (reads_all c.args.digits.now c.loop-digit.digit-index c.loop-digit.value (omega arith)) ∙ c.loop-digit.invariant.rest

pub overflow_mul-value : goal.overflow_mul-value
overflow_mul-value c = let small = room_for_digit c.loop-digit.value c.loop-digit.digit-index c.args.digits.now c.requires (omega arith) c.loop-digit.invariant.below in omega (arith, small)

pub overflow_add-value : goal.overflow_add-value
overflow_add-value c =
    let lt : c.loop-digit.digit-index < length c.args.digits.now = omega arith in
    let small = room_for_digit c.loop-digit.value c.loop-digit.digit-index c.args.digits.now c.requires lt c.loop-digit.invariant.below in
    let digit : c.from.result < 10 = rw c.from.ensures (digit_is_small c.args.digits.now c.loop-digit.digit-index c.requires lt) in
    omega (arith, small, digit)
