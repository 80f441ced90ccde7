use Rattle.depot_answers.specs.AnswerTexts.{text_of_check}
use Rattle.depot_answers.proofs.checks.check.Goals as goal

pub returns-in-UnknownWriter : goal.returns-in-UnknownWriter
unfolding text_of_check
returns-in-UnknownWriter c = rw c.in-UnknownWriter.is c.numbered_node.ensures

pub returns-in-BadSignature : goal.returns-in-BadSignature
unfolding text_of_check
returns-in-BadSignature c = rw c.in-BadSignature.is c.numbered_node-in-BadSignature.ensures

pub returns-in-BadHistory : goal.returns-in-BadHistory
unfolding text_of_check
returns-in-BadHistory c = rw c.in-BadHistory.is c.text-in-BadHistory.ensures

pub returns-in-Convicted : goal.returns-in-Convicted
unfolding text_of_check
returns-in-Convicted c = rw c.in-Convicted.is c.numbered_node-in-Convicted.ensures

pub returns-in-VoucherConvicted : goal.returns-in-VoucherConvicted
unfolding text_of_check
returns-in-VoucherConvicted c = rw c.in-VoucherConvicted.is c.numbered_node-in-VoucherConvicted.ensures

pub returns-in-Unwanted : goal.returns-in-Unwanted
unfolding text_of_check
returns-in-Unwanted c = rw c.in-Unwanted.is c.text-in-Unwanted.ensures

pub returns-in-NotContradictory : goal.returns-in-NotContradictory
unfolding text_of_check
returns-in-NotContradictory c = rw c.in-NotContradictory.is c.text-in-NotContradictory.ensures

pub returns-in-AgainstMe : goal.returns-in-AgainstMe
unfolding text_of_check
returns-in-AgainstMe c = rw c.in-AgainstMe.is c.text-in-AgainstMe.ensures
