use Rattle.std.proofs.Common.{List, ◌++◌, ap, ◌∙◌}
use Rattle.std.specs.List.{flat_map}
use Rattle.depot_schedule.specs.declared.member.Member.{Member}
use Rattle.depot_schedule.specs.declared.event.Event.{Event}
use Rattle.depot_lines.specs.LineReading.{LineSoFar}
use Rattle.depot_lines.specs.LineTexts.{text_of_line}
use Rattle.depot_schedule.specs.Schedules.{member_words, event_words}
use Rattle.depot_schedule.proofs.ScheduleSteps.{schedule-written}
use Rattle.depot_schedule.proofs.print.print_schedule.Goals as goal

pub returns : goal.returns
returns c = c.into_text.ensures ∙ schedule-written c.args.schedule.now c.new-out.result.text c.first_line.new.out.text c.scheme_line.new.out.text c.member_lines.new.out.text c.event_lines.new.out.text
    (ap (λ (l : LineSoFar). l.text) c.new-out.ensures) c.in_ok-first_line.ensures c.in_ok-scheme_line.ensures
    (c.in_ok-member_lines.ensures ∙ ap (λ (ms : List Member). c.scheme_line.new.out.text ++ flat_map (λ m. text_of_line (member_words m)) ms) c.as_slice.ensures)
    (c.in_ok-event_lines.ensures ∙ ap (λ (es : List Event). c.member_lines.new.out.text ++ flat_map (λ e. text_of_line (event_words e)) es) c.as_slice-2.ensures)
