use Rattle.depot_script.proofs.ScriptLaws.{script_again}
use Rattle.depot_script.proofs.script_laws.scripts_are_read_back.Goals as goal

pub returns : goal.returns
returns c = script_again
