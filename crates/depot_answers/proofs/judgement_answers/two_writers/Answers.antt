use Rattle.std.proofs.Common.{append_assoc}
use Rattle.depot_answers.proofs.judgement_answers.two_writers.Goals as goal

pub returns : goal.returns
returns c = simp append_assoc (rw (c.as_str.ensures.value, c.in_ok-words.ensures.ok, c.number-first.ensures.same, c.number-second.ensures.same) at c.text.ensures)
