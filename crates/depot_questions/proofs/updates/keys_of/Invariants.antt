use Rattle.std.proofs.Common.{◌≡◌, map, take}
use Rattle.depot_questions.proofs.updates.keys_of.Given as goal

abbrev pub invariant-loop-write : goal.invariant-loop-write
invariant-loop-write l = l.keys ≡ map (λ w. w.key) (take l.write-index l.writes)
