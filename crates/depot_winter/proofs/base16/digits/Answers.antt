use Rattle.std.proofs.Common.{◌≡◌, length, arith}
use Rattle.depot_winter.proofs.DigitLemmas.{digits_made, digits_small_from}
use Rattle.depot_winter.proofs.base16.digits.Goals as goal

pub returns-clause-base : goal.returns-clause-base
returns-clause-base c =
    let whole : length c.args.digest.now ≡ 32 = c.bytes-byte-items.ensures.length in
    let made = digits_made c.loop-place.digits c.args.digest.now c.loop-place.place c.loop-place.checksum
    c.loop-place.invariant.whole (omega arith) whole c.loop-place.invariant.own c.loop-place.invariant.sum in
    digits_small_from _ c.args.digest.now c.loop-place.place made whole (omega arith) c.loop-place.invariant.bytes
