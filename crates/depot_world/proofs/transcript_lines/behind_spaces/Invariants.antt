use Rattle.std.proofs.Common.{◌≡◌, ◌++◌, length}
use Rattle.depot_lines.specs.LineReading.{behind_spaces}
use Rattle.depot_world.proofs.transcript_lines.behind_spaces.Given as goal

abbrev pub decreases-loop-next : goal.decreases-loop-next
decreases-loop-next l = length l.words

abbrev pub invariant-loop-next : goal.invariant-loop-next
invariant-loop-next l = behind_spaces l.initial.words ≡ l.text ++ behind_spaces l.words
