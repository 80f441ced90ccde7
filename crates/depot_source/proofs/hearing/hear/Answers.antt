use Rattle.std.proofs.Common.{◌≡◌, length, Err, ap, arith}
use Rattle.depot_source.proofs.Heard.{heard, unheard_body}
use Rattle.depot_source.proofs.hearing.hear.Goals as goal

pub returns-in-Ok-hear_body-clause-hears : goal.returns-in-Ok-hear_body-clause-hears
returns-in-Ok-hear_body-clause-hears g c =
    let four : length c.in-Ok.head ≡ 4 = omega (arith, c.in-Ok.ensures.count, c.if-head-lt4.false, ap length c.as_slice-head.ensures) in
    heard (g.I.Source.given c.args.input.now) (g.I.Source.given c.read_exactly.new.input) (g.I.Source.given c.hear_body.new.input) c.in-Ok.head c.in-Ok-hear_body.body c.said-count.result
    four (rw c.as_slice-head.ensures at c.said-count.ensures) (omega (arith, c.if-count-eq0.false)) (omega (arith, c.if-count-gt-MOST_MESSAGE.false)) c.in-Ok.ensures.read c.in-Ok-hear_body.ensures.body.0 c.in-Ok-hear_body.ensures.body.1

pub returns-clause-hears : goal.returns-clause-hears
returns-clause-hears g c =
    let four : length c.in-Ok.head ≡ 4 = omega (arith, c.in-Ok.ensures.count, c.if-head-lt4.false, ap length c.as_slice-head.ensures) in
    unheard_body (g.I.Source.given c.args.input.now) (g.I.Source.given c.read_exactly.new.input) (g.I.Source.given c.hear_body.new.input) c.in-Ok.head (g.I.Source.over c.hear_body.new.input) c.said-count.result c.in-Err.error
    four (rw c.as_slice-head.ensures at c.said-count.ensures) c.in-Ok.ensures.read (λ is. c.in-Err.ensures.bad (ap Err is)) (λ is. c.in-Err.ensures.failed (ap Err is)) c.in-Err.ensures.more
