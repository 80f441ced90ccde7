use Rattle.depot_questions.proofs.AnswerLaws.{one_way}
use Rattle.depot_questions.proofs.question_laws.answers_are_read_in_one_way.Goals as goal

pub returns : goal.returns
returns c = one_way
