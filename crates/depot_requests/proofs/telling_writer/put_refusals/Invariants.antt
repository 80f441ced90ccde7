use Rattle.std.proofs.Common.{◌≡◌, ◌++◌, take}
use Rattle.std.specs.List.{flat_map}
use Rattle.depot_requests.specs.TellingTexts.{refusal_text}
use Rattle.depot_requests.proofs.telling_writer.put_refusals.Given as goal

abbrev pub invariant-loop-refusal : goal.invariant-loop-refusal
invariant-loop-refusal l = l.out ≡ l.initial.out ++ flat_map refusal_text.text (take l.refusal-index l.refused)
