use Rattle.std.proofs.Common.{arith}
use Rattle.depot_source.proofs.AheadLaws.{message_of}
use Rattle.depot_source.proofs.buffered.first_body.Goals as goal

pub returns : goal.returns
returns c = message_of c.args.bytes.now c.said-long.result (omega (arith, c.if-bytes-lt4.false)) c.said-long.ensures (omega (arith, c.if-long-eq0.false)) (omega (arith, c.if-long-gt-MOST_MESSAGE.false)) (omega (arith, c.if-rest-long.false))
