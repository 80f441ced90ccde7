use Rattle.std.proofs.Common.{◌≡◌, ◌-◌, []}
use Rattle.depot_base.specs.Reading.{GoesOn}
use Rattle.depot_base.specs.Format.{read_entries}
use Rattle.depot_base.proofs.entry.entries_in.Given as goal

abbrev pub invariant-loop : goal.invariant-loop
invariant-loop g l = GoesOn l.initial.fields l.fields × (read_entries g.E.Entry.read (g.E.Entry.may_follow l.own) (l.count - l.counter) l.list.items l.fields ≡ read_entries g.E.Entry.read (g.E.Entry.may_follow l.own) l.count [] l.initial.fields)
