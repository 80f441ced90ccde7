use Rattle.std.proofs.Common.{◌≡◌, take}
use Rattle.depot_service.proofs.traces.reads_again.Given as goal

abbrev pub invariant-loop-read : goal.invariant-loop-read
invariant-loop-read l = l.again ≡ take l.read-index l.reads
