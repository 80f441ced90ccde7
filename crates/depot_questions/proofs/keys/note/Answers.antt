use Rattle.std.proofs.Common.{arith, refl}
use Rattle.depot_questions.proofs.LeastLaws.{all_kept, last_popped, one_at_most, put_in}
use Rattle.depot_questions.proofs.keys.note.Goals as goal

pub returns-then-len-clause-put : goal.returns-then-len-clause-put
returns-then-len-clause-put c =
    last_popped 1025 c.insert.new.self.keys c.pop_last.new.self.keys c.pop_last.result _ c.pop_last.ensures.removal c.pop_last.ensures.variant (omega (arith, c.if-len.true, c.len.ensures.len)) (omega (arith, c.in_ok-insert.ensures.len, one_at_most c.in_ok-insert.field-0, c.requires)) (put_in _ (λ a b. refl) c.args.least.now.keys c.insert.new.self.keys c.args.key c.in_ok-insert.ensures.keys)

pub returns-else-len-clause-put : goal.returns-else-len-clause-put
returns-else-len-clause-put c = all_kept 1025 c.insert.new.self.keys _ (omega (arith, c.if-len.false, c.len.ensures.len)) (put_in _ (λ a b. refl) c.args.least.now.keys c.insert.new.self.keys c.args.key c.in_ok-insert.ensures.keys)
