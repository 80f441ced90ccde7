-- What was read is kept, a byte a turn at least.
use Rattle.std.proofs.Common.{◌≡◌, ◌≤◌, ◌++◌, length, IsTrue}
use Rattle.depot_source.proofs.hearing.read_exactly.Given as goal

abbrev pub invariant-loop : goal.invariant-loop
invariant-loop g l = record {
  read : g.I.Source.given l.input ≡ g.I.Source.given l.initial.input ++ l.bytes;
  least : l.counter ≤ length l.bytes;
  most : length l.bytes ≤ l.fn.count;
  whole : IsTrue (g.I.Source.tells l.initial.input) → g.I.Source.given l.input ++ g.I.Source.rest l.input ≡ g.I.Source.given l.initial.input ++ g.I.Source.rest l.initial.input;
  tells : g.I.Source.tells l.input ≡ g.I.Source.tells l.initial.input;
  quiet : g.I.Source.faults l.input ≡ g.I.Source.faults l.initial.input;
}
