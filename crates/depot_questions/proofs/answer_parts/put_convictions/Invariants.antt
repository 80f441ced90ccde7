use Rattle.std.proofs.Common.{◌≡◌, ◌++◌, take}
use Rattle.std.specs.List.{flat_map}
use Rattle.depot_questions.specs.QuestionAnswers.{conviction_at_text}
use Rattle.depot_questions.proofs.answer_parts.put_convictions.Given as goal

abbrev pub invariant-loop-conviction : goal.invariant-loop-conviction
invariant-loop-conviction l = l.out ≡ l.fn.out ++ flat_map conviction_at_text.text (take l.conviction-index l.convictions)
