use Rattle.std.proofs.Common.{◌≡◌, ◌≤◌, length}
use Rattle.depot_lines.specs.LineTexts.{lines_of_parts}
use Rattle.depot_schedule.specs.Schedules.{read_rest}
use Rattle.depot_schedule_parser.proofs.parse.rest.Given as goal

abbrev pub decreases-loop-text : goal.decreases-loop-text
decreases-loop-text l = length (lines_of_parts l.parts)

abbrev pub invariant-loop-text : goal.invariant-loop-text
invariant-loop-text l = record {
  few : l.number ≤ 100001;
  rest : read_rest l.number l.draft (lines_of_parts l.parts) ≡ read_rest 3 l.fn.draft (lines_of_parts l.fn.parts);
}
