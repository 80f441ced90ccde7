use Rattle.std.proofs.Common.{◌≡◌, ◌++◌, take}
use Rattle.std.specs.List.{flat_map}
use Rattle.depot_questions.specs.QuestionAnswers.{update_keys_text}
use Rattle.depot_questions.proofs.answer_parts.put_updates.Given as goal

abbrev pub invariant-loop-update : goal.invariant-loop-update
invariant-loop-update l = l.out ≡ l.fn.out ++ flat_map update_keys_text.text (take l.update-index l.updates)
