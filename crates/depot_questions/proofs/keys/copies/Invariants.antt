use Rattle.std.proofs.Common.{◌≡◌, map, take}
use Rattle.depot_questions.proofs.keys.copies.Given as goal

abbrev pub invariant-loop-key : goal.invariant-loop-key
invariant-loop-key l = l.texts ≡ map (λ k. k.now) (take l.key-index l.keys)
