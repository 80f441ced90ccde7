use Rattle.std.proofs.Common.{◌≡◌, length}
use Rattle.depot_lines.specs.Language.{split}
use Rattle.depot_lines.specs.LineTexts.{are_words}
use Rattle.depot_lines.proofs.line.are_words.Given as goal

abbrev pub decreases-loop-word : goal.decreases-loop-word
decreases-loop-word l = length l.words

abbrev pub invariant-loop-word : goal.invariant-loop-word
invariant-loop-word l = are_words l.words ≡ are_words (split 32 l.line)
