use Rattle.std.proofs.Common.{ℕ, List, [], ap, arith}
use Rattle.std.specs.Borrow.{Bor}
use Rattle.std.proofs.lemmas.List.{take_all}
use Rattle.depot_streams.specs.Sendings.{payloads_of}
use Rattle.depot_streams.proofs.FrameLengths.{length_under, frames_under_long, lent_is_short, length_more}
use Rattle.depot_streams.proofs.sending.frames_length.Goals as goal

pub loop-payload-preserved : goal.loop-payload-preserved
loop-payload-preserved c =
    let lent = c.args.payloads.now in
    let none : Bor (List ℕ) = record { ref_ptr = (0, 0); now = [] } in
    let short = lent_is_short lent c.loop-payload.payload-index none c.loop-payload-test.true c.requires.short in
    let more = length_more lent c.loop-payload.payload-index none c.loop-payload-test.true in
    record { so_far = omega (arith, more, c.loop-payload.invariant.so_far); short = omega (arith, short, c.loop-payload.invariant.short) }

pub returns-clause-bytes : goal.returns-clause-bytes
returns-clause-bytes c = λ tag.
    let all = take_all c.loop-payload.payload-index c.args.payloads.now (omega arith) in
    omega (arith, c.loop-payload.invariant.so_far, ap (λ (lent : List (Bor (List ℕ))). length_under (payloads_of lent)) all, frames_under_long tag (payloads_of c.args.payloads.now))
