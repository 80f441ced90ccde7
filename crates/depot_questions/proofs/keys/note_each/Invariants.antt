use Rattle.std.specs.Option.{option_copied}
use Rattle.depot_questions.proofs.LeastLaws.{HasNoted, keys_from}
use Rattle.depot_questions.proofs.keys.note_each.Given as goal

abbrev pub invariant-loop-at : goal.invariant-loop-at
invariant-loop-at l = HasNoted (option_copied l.after) l.fn.least.keys l.least.keys (keys_from l.at l.writes)
