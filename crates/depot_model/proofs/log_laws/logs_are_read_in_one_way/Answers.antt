use Rattle.depot_model.proofs.of_texts.LogLaws.{one_log, log_has_no_fault, one_log_fault}
use Rattle.depot_model.proofs.log_laws.logs_are_read_in_one_way.Goals as goal

pub returns-clause-one_list : goal.returns-clause-one_list
returns-clause-one_list c bytes us vs a b = one_log bytes us vs a b

pub returns-clause-no_fault : goal.returns-clause-no_fault
returns-clause-no_fault c bytes us at l f = log_has_no_fault bytes us at l f

pub returns-clause-one_fault : goal.returns-clause-one_fault
returns-clause-one_fault c bytes i j a b = one_log_fault bytes i j a b
