use Rattle.std.proofs.Common.{◌≡◌, length}
use Rattle.depot_lines.specs.Language.{read_parts, split}
use Rattle.depot_schedule.specs.EventWords.{reference_for}
use Rattle.depot_lines.specs.LineReading.{gathered}
use Rattle.depot_schedule_parser.proofs.references.all_references.Given as goal

abbrev pub decreases-loop-part : goal.decreases-loop-part
decreases-loop-part l = length l.parts

abbrev pub invariant-loop-part : goal.invariant-loop-part
invariant-loop-part l = gathered l.gathered.fault l.gathered.refs (read_parts ((reference_for l.wanted).read l.behind) l.parts) ≡ read_parts ((reference_for l.wanted).read l.behind) (split 44 l.word)
