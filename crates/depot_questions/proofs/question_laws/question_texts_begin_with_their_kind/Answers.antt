use Rattle.depot_questions.proofs.QuestionLaws.{begins_so}
use Rattle.depot_questions.proofs.question_laws.question_texts_begin_with_their_kind.Goals as goal

pub returns : goal.returns
returns c = λ q. begins_so q
