use Rattle.depot_answers.proofs.judgement_answers.point.Goals as goal

pub returns-in-UnknownWriter : goal.returns-in-UnknownWriter
returns-in-UnknownWriter c = rw c.in-UnknownWriter.is c.numbered_node.ensures

pub returns-in-BadSignature : goal.returns-in-BadSignature
returns-in-BadSignature c = rw c.in-BadSignature.is (rw c.name_of_half.ensures at c.two_words.ensures)

pub returns-in-NotContradictory : goal.returns-in-NotContradictory
returns-in-NotContradictory c = rw c.in-NotContradictory.is (rw c.name_of_kind.ensures at c.two_words-in-NotContradictory.ensures)
