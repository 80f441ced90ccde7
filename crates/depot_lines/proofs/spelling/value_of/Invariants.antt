use Rattle.std.proofs.Common.{◌≡◌, ◌^◌, ◌<◌, drop}
use Rattle.depot_lines.specs.Spelling.{value_behind}
use Rattle.depot_lines.proofs.spelling.value_of.Given as goal

abbrev pub invariant-loop-digit : goal.invariant-loop-digit
invariant-loop-digit l = record {
  below : l.value < 10 ^ l.digit-index;
  rest : value_behind l.value (drop l.digit-index l.digits) ≡ value_behind 0 l.digits;
}
