use Rattle.std.proofs.Common.{◌≡◌, ◌++◌, take}
use Rattle.std.specs.List.{flat_map}
use Rattle.depot_requests.specs.TellingTexts.{flag_text}
use Rattle.depot_questions.proofs.answer_parts.put_each_flag.Given as goal

abbrev pub invariant-loop-flag : goal.invariant-loop-flag
invariant-loop-flag l = l.out ≡ l.fn.out ++ flat_map flag_text.text (take l.flag-index l.flags)
