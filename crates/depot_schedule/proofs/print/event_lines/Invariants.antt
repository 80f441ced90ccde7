use Rattle.std.proofs.Common.{◌≡◌, ◌++◌, take}
use Rattle.std.specs.List.{flat_map}
use Rattle.depot_lines.specs.LineTexts.{text_of_line}
use Rattle.depot_schedule.specs.Schedules.{event_words}
use Rattle.depot_schedule.proofs.print.event_lines.Given as goal

abbrev pub invariant-loop-event : goal.invariant-loop-event
invariant-loop-event l = l.out.text ≡ l.initial.out.text ++ flat_map (λ e. text_of_line (event_words e)) (take l.event-index l.events)
