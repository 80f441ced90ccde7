use Rattle.std.proofs.Common.{◌≡◌, ◌++◌, take}
use Rattle.std.specs.List.{flat_map}
use Rattle.depot_requests.specs.ChangeTexts.{key_text}
use Rattle.depot_questions.proofs.answer_parts.put_keys.Given as goal

abbrev pub invariant-loop-key : goal.invariant-loop-key
invariant-loop-key l = l.out ≡ l.fn.out ++ flat_map key_text.text (take l.key-index l.keys)
