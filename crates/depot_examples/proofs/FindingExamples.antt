-- What is printed of each finding of an audit, those among them that no world of lawful records gives.
use Rattle.std.proofs.Common.{◌≡◌, codes, refl}
use Rattle.std.specs.Fmt.{digits}
use Rattle.depot_answers.specs.AnswerTexts.{text_of_finding}
use Rattle.depot_model.specs.declared.record_fault.RecordFault.TheVariants as fault
use Rattle.depot_model.specs.worlds.Audit.{the_read, the_write, yes_found, unlawful, answer_found, circle_found, unordered_found, unseen_found, wrong_found, split_found, named_found}

record Printed : Type 0 where
  pub yes : text_of_finding yes_found ≡ codes "yes"
  pub record_of_node : text_of_finding (unlawful 1 2 fault.Birth) ≡ codes "no record 1 2 Birth"
  pub answer : text_of_finding (answer_found 1 20) ≡ codes "no answer 1 20"
  pub circle : text_of_finding (circle_found (the_write 1 2)) ≡ codes "no fjc 1 w1.2"
  pub unordered : text_of_finding (unordered_found (the_write 1 2) (the_read 1 3)) ≡ codes "no fjc 2 w1.2 r1.3"
  pub unseen : text_of_finding (unseen_found (the_write 2 1) (the_write 2 4)) ≡ codes "no fjc 3 w2.1 w2.4"
  pub wrong : text_of_finding (wrong_found 12 0) ≡ codes "no fjc 4 r12.0"
  pub split : text_of_finding (split_found 2 5) ≡ codes "no fjc 5 2 5"
  pub named : text_of_finding (named_found 1 3) ≡ codes "no named 1 3"

printed : Printed
unfolding text_of_finding digits
printed = record { yes = refl; record_of_node = refl; answer = refl; circle = refl; unordered = refl; unseen = refl; wrong = refl; split = refl; named = refl }
