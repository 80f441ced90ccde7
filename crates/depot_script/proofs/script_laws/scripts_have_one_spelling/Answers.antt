use Rattle.depot_script.proofs.ScriptLaws.{text_of_read}
use Rattle.depot_script.proofs.script_laws.scripts_have_one_spelling.Goals as goal

pub returns : goal.returns
returns c = text_of_read
