use Rattle.std.proofs.Common.{◌≡◌, ◌-◌, []}
use Rattle.depot_base.specs.Format.{read_entries}
use Rattle.depot_requests.specs.ChangeTexts.{change_follows, change_text}
use Rattle.depot_requests.proofs.changes.changes_in.Given as goal

abbrev pub invariant-loop : goal.invariant-loop
invariant-loop l = read_entries change_text.read change_follows (l.count - l.counter) l.list.items l.fields ≡ read_entries change_text.read change_follows l.count [] l.initial.fields
