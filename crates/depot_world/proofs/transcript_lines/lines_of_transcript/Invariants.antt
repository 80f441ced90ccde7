use Rattle.std.proofs.Common.{◌≡◌, ◌++◌, length, map}
use Rattle.depot_lines.specs.Language.{split}
use Rattle.depot_world.specs.TranscriptLines.{line_of_words, lines_of_transcript}
use Rattle.depot_world.proofs.transcript_lines.lines_of_transcript.Given as goal

abbrev pub decreases-loop-line : goal.decreases-loop-line
decreases-loop-line l = length l.lines

abbrev pub invariant-loop-line : goal.invariant-loop-line
invariant-loop-line l = lines_of_transcript l.text ≡ l.list.items ++ map (λ line. line_of_words (split 32 line)) l.lines
