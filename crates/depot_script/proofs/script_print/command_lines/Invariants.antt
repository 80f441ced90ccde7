use Rattle.std.proofs.Common.{◌≡◌, ◌++◌, take}
use Rattle.std.specs.List.{flat_map}
use Rattle.depot_lines.specs.LineTexts.{text_of_line}
use Rattle.depot_script.specs.Scripts.{command_words}
use Rattle.depot_script.proofs.script_print.command_lines.Given as goal

abbrev pub invariant-loop-command : goal.invariant-loop-command
invariant-loop-command l = l.out.text ≡ l.initial.out.text ++ flat_map (λ c. text_of_line (command_words c)) (take l.command-index l.commands)
