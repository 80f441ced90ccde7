use Rattle.std.proofs.Common.{◌≡◌, ◌++◌, take}
use Rattle.std.specs.List.{flat_map}
use Rattle.depot_questions.specs.QuestionAnswers.{latest_write_text}
use Rattle.depot_questions.proofs.answer_parts.put_each_latest.Given as goal

abbrev pub invariant-loop-write : goal.invariant-loop-write
invariant-loop-write l = l.out ≡ l.fn.out ++ flat_map latest_write_text.text (take l.write-index l.writes)
