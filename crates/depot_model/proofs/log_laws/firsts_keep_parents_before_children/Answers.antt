use Rattle.depot_model.proofs.of_texts.LogLaws.{firsts_are_causal}
use Rattle.depot_model.proofs.log_laws.firsts_keep_parents_before_children.Goals as goal

pub returns : goal.returns
returns c us e = firsts_are_causal us e
