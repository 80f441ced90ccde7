use Rattle.std.proofs.Common.{◌≡◌, ◌-◌, []}
use Rattle.depot_sign.specs.RosterReading.{entries_or_stop}
use Rattle.depot_sign.proofs.text.entries_in.Given as goal

-- what is left to read leads to what all of it leads to
abbrev pub invariant-loop : goal.invariant-loop
invariant-loop l = entries_or_stop (l.count - l.counter) l.list.items l.fields ≡ entries_or_stop l.count [] l.initial.fields
