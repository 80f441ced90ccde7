use Rattle.std.proofs.Common.{◌≡◌, ◌++◌, take}
use Rattle.std.specs.List.{flat_map}
use Rattle.depot_lines.specs.LineTexts.{text_of_line}
use Rattle.depot_schedule.specs.Schedules.{member_words}
use Rattle.depot_schedule.proofs.print.member_lines.Given as goal

abbrev pub invariant-loop-member : goal.invariant-loop-member
invariant-loop-member l = l.out.text ≡ l.initial.out.text ++ flat_map (λ m. text_of_line (member_words m)) (take l.member-index l.members)
