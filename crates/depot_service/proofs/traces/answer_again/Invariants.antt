use Rattle.std.proofs.Common.{◌≡◌, take}
use Rattle.depot_service.proofs.traces.answer_again.Given as goal

abbrev pub invariant-loop-listed : goal.invariant-loop-listed
invariant-loop-listed l = l.again ≡ take l.listed-index l.answer
