use Rattle.std.proofs.Common.{◌≡◌, ◌-◌, []}
use Rattle.depot_base.specs.Reading.{GoesOn}
use Rattle.depot_base.specs.Format.{read_entries}
use Rattle.depot_traces.specs.TraceTexts.{any_follows}
use Rattle.depot_traces.proofs.items.items_in.Given as goal

abbrev pub invariant-loop : goal.invariant-loop
invariant-loop g l = GoesOn l.initial.fields l.fields × (read_entries g.I.Item.read any_follows (l.count - l.counter) l.list.items l.fields ≡ read_entries g.I.Item.read any_follows l.count [] l.initial.fields)
