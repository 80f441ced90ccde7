use Rattle.depot_laws.proofs.of_readers.PrunedAnswers.{contrary_names}
use Rattle.depot_laws.proofs.trimming.contrary_statements_name.Goals as goal

pub returns : goal.returns
returns c here J k t s l t_on e = contrary_names here J l k t s t_on e
