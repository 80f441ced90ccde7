use Rattle.depot_questions.proofs.QuestionLaws.{one_way}
use Rattle.depot_questions.proofs.question_laws.questions_are_read_in_one_way.Goals as goal

pub returns : goal.returns
returns c = one_way
