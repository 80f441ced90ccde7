use Rattle.std.proofs.Common.{arith}
use Rattle.depot_base.proofs.Decoding.{is_early_closed, decodes_closed}
use Rattle.depot_questions.specs.QuestionTexts.{question_text}
use Rattle.depot_questions.proofs.QuestionLaws.{finds, question_text_lawful}
use Rattle.depot_questions.proofs.question_reader.decode_question.Goals as goal

pub answer-requires : goal.answer-requires
answer-requires c = is_early_closed question_text 514 question_text_lawful (omega arith) c.args.body.now (λ i. omega (arith, c.type_inv.body i)) c.question_of.result (rw c.new.ensures at c.question_of.ensures)

pub returns-clause-decodes : goal.returns-clause-decodes
returns-clause-decodes c = rw c.answer.ensures (decodes_closed question_text 514 question_text_lawful c.args.body.now (λ i. omega (arith, c.type_inv.body i)) c.question_of.result (rw c.new.ensures at c.question_of.ensures))

pub returns-clause-finds : goal.returns-clause-finds
returns-clause-finds c = rw c.answer.ensures (finds c.args.body.now c.question_of.result (rw c.new.ensures at c.question_of.ensures))
