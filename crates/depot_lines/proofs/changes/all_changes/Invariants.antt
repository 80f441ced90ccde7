use Rattle.std.proofs.Common.{◌≡◌, None, length}
use Rattle.depot_lines.specs.Language.{nothing, read_parts, split}
use Rattle.depot_lines.specs.Vocabulary.{change}
use Rattle.depot_lines.specs.LineReading.{gathered}
use Rattle.depot_lines.proofs.changes.all_changes.Given as goal

abbrev pub decreases-loop-part : goal.decreases-loop-part
decreases-loop-part l = length l.parts

abbrev pub invariant-loop-part : goal.invariant-loop-part
invariant-loop-part l = gathered None l.changes (read_parts ((change l.keys).read nothing) l.parts) ≡ read_parts ((change l.keys).read nothing) (split 44 l.word)
