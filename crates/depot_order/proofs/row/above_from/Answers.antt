use Rattle.std.proofs.Common.{◌∙◌, sym, arith}
use Rattle.depot_order.proofs.EntryLaws.{first_from, none_from}
use Rattle.depot_order.proofs.row.above_from.Goals as goal

pub returns-in_err-step-clause-none : goal.returns-in_err-step-clause-none
returns-in_err-step-clause-none c = rw c.from_residual.ensures (none_from c.args.row.now c.args.before.now c.args.at c.requires.len c.requires.inside (sym c.first_above.ensures ∙ c.in_err-step.was))

pub overflow_add-result : goal.overflow_add-result
overflow_add-result c =
    let found = first_from c.args.row.now c.args.before.now c.args.at c.in_ok-step.step c.requires.len c.requires.inside (sym c.first_above.ensures ∙ c.in_ok-step.was) in
    omega (arith, found.inside)

pub returns-clause-some : goal.returns-clause-some
returns-clause-some c = first_from c.args.row.now c.args.before.now c.args.at c.in_ok-step.step c.requires.len c.requires.inside (sym c.first_above.ensures ∙ c.in_ok-step.was)
