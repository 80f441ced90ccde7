use Rattle.std.proofs.Common.{◌≡◌, take, true}
use Rattle.std.specs.List.{list_all}
use Rattle.depot_lines.specs.FileNames.{is_file_name}
use Rattle.depot_cli.proofs.invocation.file_names.Given as goal

abbrev pub invariant-loop-word : goal.invariant-loop-word
invariant-loop-word l = (l.names ≡ take l.word-index l.words) × (list_all is_file_name (take l.word-index l.words) ≡ true)
