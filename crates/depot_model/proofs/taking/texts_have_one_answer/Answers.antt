use Rattle.depot_model.proofs.of_journals.TakeLaws.{one_answer}
use Rattle.depot_model.proofs.taking.texts_have_one_answer.Goals as goal

pub returns : goal.returns
returns c = one_answer
