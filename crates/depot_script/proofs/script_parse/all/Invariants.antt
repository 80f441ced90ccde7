use Rattle.std.proofs.Common.{◌≡◌, ◌≤◌, ◌++◌, length, Ok}
use Rattle.depot_base.specs.Format.{◌>>=◌}
use Rattle.depot_lines.specs.LineTexts.{lines_of_text, lines_of_parts}
use Rattle.depot_script.specs.Scripts.{read_lines}
use Rattle.depot_script.proofs.script_parse.all.Given as goal

abbrev pub decreases-loop-text : goal.decreases-loop-text
decreases-loop-text l = length (lines_of_parts l.parts)

-- the commands so far, and those that are read after them, are those of the text
abbrev pub invariant-loop-text : goal.invariant-loop-text
invariant-loop-text l = record {
  few : l.number ≤ 100001;
  rest : (read_lines l.number (lines_of_parts l.parts) >>= λ commands. Ok (l.script ++ commands)) ≡ read_lines 1 (lines_of_text l.fn.text);
}
