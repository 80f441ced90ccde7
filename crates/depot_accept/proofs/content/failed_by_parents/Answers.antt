use Rattle.std.proofs.Common.{Some, None, ap, ◌∙◌}
use Rattle.depot_model.specs.checks.Checks.{sight, behind}
use Rattle.depot_accept.proofs.ContentOrder.{only_prev, fails_wrong, fails_backward, fails_low, fails_far}
use Rattle.depot_accept.proofs.content.failed_by_parents.Goals as goal

pub returns-in-Some : goal.returns-in-Some
returns-in-Some g c = fails_wrong c.args.update.now (sight (g.P.Past.updates c.args.past.now) c.args.update.now) c.in-Some.check c.in-Some.ensures

pub returns-in-Some-behind : goal.returns-in-Some-behind
returns-in-Some-behind g c =
    let us = g.P.Past.updates c.args.past.now in
    fails_backward c.args.update.now (sight us c.args.update.now) c.in-Some-behind.check c.in_default.ensures (only_prev us c.args.update.now (Some c.in-Some-behind.check) (c.in-Some-behind.ensures ∙ ap (behind c.args.update.now) c.prev_of.ensures))

pub returns-in-Some-clock_low : goal.returns-in-Some-clock_low
returns-in-Some-clock_low g c =
    let us = g.P.Past.updates c.args.past.now in
    fails_low c.args.update.now (sight us c.args.update.now) c.in-Some-clock_low.check c.in_default.ensures (only_prev us c.args.update.now None (c.in_default-behind.ensures ∙ ap (behind c.args.update.now) c.prev_of.ensures)) c.in-Some-clock_low.ensures

pub returns : goal.returns
returns g c =
    let us = g.P.Past.updates c.args.past.now in
    fails_far c.args.update.now (sight us c.args.update.now) c.clock_far.result c.in_default.ensures (only_prev us c.args.update.now None (c.in_default-behind.ensures ∙ ap (behind c.args.update.now) c.prev_of.ensures)) c.in_default-clock_low.ensures c.clock_far.ensures
