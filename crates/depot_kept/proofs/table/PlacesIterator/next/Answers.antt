use Rattle.std.proofs.Common.{None, ap, length, arith}
use Rattle.depot_kept.specs.PlacesLeft.{left}
use Rattle.depot_kept.proofs.LinkLaws.{from_none, next_place, next_linked}
use Rattle.depot_kept.proofs.table.PlacesIterator.next.Goals as goal

pub returns-in_err-link-clause-steps : goal.returns-in_err-link-clause-steps
unfolding left
returns-in_err-link-clause-steps c = rw (c.from_residual.ensures, c.in_err-link.was) (from_none _ _, from_none _ _)

pub invariant_of-self : goal.invariant_of-self
invariant_of-self c = record { linked = next_linked _ _ _ _ c.args.self.now.linked c.in_ok-link.was }

pub returns-clause-steps : goal.returns-clause-steps
unfolding left
returns-clause-steps c = next_place _ _ _ _ c.args.self.now.linked c.in_ok-link.was

pub returns-clause-goes : goal.returns-clause-goes
unfolding left
returns-clause-goes c =
    let e = ap length (next_place c.args.self.now.links.now c.args.self.now.next c.in_ok-link.field-0 (record { place = 0; before = None }) c.args.self.now.linked c.in_ok-link.was) in
    record { on = λ h. (tt, tt, omega arith); keeps = tt; rests = λ h. tt }
