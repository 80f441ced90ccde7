use Rattle.depot_lines.proofs.LineTextLaws.{given_holds, read_is_given}
use Rattle.depot_script.specs.Scripts.{IsTextOfScript, script_of}
use Rattle.depot_script.proofs.ScriptLaws.{text_of_read, read_of_text}
use Rattle.depot_script.proofs.script_parse.parse_script.Goals as goal

pub returns-clause-found : goal.returns-clause-found
returns-clause-found c = given_holds (IsTextOfScript c.args.text.now) c.all.result (script_of c.args.text.now) c.all.ensures (text_of_read c.args.text.now)

pub returns-clause-only : goal.returns-clause-only
returns-clause-only c = λ s h. read_is_given c.all.result (script_of c.args.text.now) c.all.ensures s (read_of_text c.args.text.now s h)
