use Rattle.std.proofs.Common.{IsTrue, Bool, false, rules, subst}
use Rattle.std.specs.Vec.{vec_len}
use Rattle.depot_journal.specs.Mirrored.{bodies_at}
use Rattle.depot_journal.proofs.AtRest.{rests}
use Rattle.depot_journal.proofs.journal.Journal.start.Given.{Over}
use Rattle.depot_journal.proofs.journal.Journal.start.Goals as goal
use Rattle.depot_journal.proofs.journal.Journal.start.Goals.{In-Ok}

-- the disk's bytes were visible before the call
told_before : (g : Over) (c : In-Ok g) → IsTrue (g.D.Disk.tells c.start_on.new.disk) → IsTrue (g.D.Disk.tells c.args.disk)
told_before g c told = subst (λ (b : Bool). IsTrue b) c.start_on.ensures.disk.tells told

pub invariant_of-result : goal.invariant_of-result
invariant_of-result g c =
    let found = c.in-Ok.ensures in
    let before : IsTrue (g.D.Disk.tells c.start_on.new.disk) → IsTrue (g.D.Disk.tells c.args.disk) = told_before g (goal.at.invariant_of-result g c).In-Ok in (
      found.mirror,
      found.within,
      search rules,
      λ runs told. (found.stands (before told), found.stable (before told)),
      λ told. rests (g.D.Disk.seen c.start_on.new.disk) (bodies_at c.in-Ok.field-0.bytes.items c.in-Ok.field-0.spans.items) (vec_len c.in-Ok.field-0.bytes) false (g.D.Disk.may_leave c.start_on.new.disk) (found.stands (before told)) found.within (found.stable (before told)),
    )
