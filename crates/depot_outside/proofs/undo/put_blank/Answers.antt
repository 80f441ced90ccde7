use Rattle.std.proofs.Common.{rules, sym, ◌∙◌, arith}
use Rattle.std.proofs.lemmas.Grind.{common_steps}
use Rattle.depot_outside.proofs.Blank.{blank_parts}
use Rattle.depot_outside.proofs.undo.put_blank.Goals as goal

pub returns-clause-blank : goal.returns-clause-blank
returns-clause-blank c = grind (arith, common_steps) ∙ sym (blank_parts c.args.at c.args.count c.args.file.now.items (search rules))
