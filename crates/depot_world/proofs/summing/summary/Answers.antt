use Rattle.std.proofs.Common.{◌≡◌, List, ◌∙◌, subst}
use Rattle.std.specs.Prelude.{IfOk}
use Rattle.depot_world.specs.declared.transcript_lines.TranscriptLine.{TranscriptLine}
use Rattle.depot_world.specs.Summaries.{summary_line, summary_of}
use Rattle.depot_world.proofs.summing.summary.Goals as goal

pub returns : goal.returns
unfolding summary_of
returns c = subst (λ (lines : List TranscriptLine). IfOk c.summary_line.result (λ line. line ≡ summary_line c.args.number lines)) (c.as_slice.ensures.value ∙ c.in_ok-lines.ensures) c.summary_line.ensures
