-- What was read is kept, and is not too much.
use Rattle.std.proofs.Common.{◌≤◌, length}
use Rattle.std.specs.Io.KnownBytes.{Consumes}
use Rattle.depot_outside.proofs.transfer.read_whole.Given as goal

abbrev pub invariant-loop : goal.invariant-loop
invariant-loop g l = record {
  read : Consumes (g.F.Read.remaining l.initial.from) (g.F.Read.remaining l.from) l.bytes;
  most : length l.bytes ≤ l.most;
}
