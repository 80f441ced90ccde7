use Rattle.std.proofs.Common.{◌≡◌, IfOk, ap, subst, ◌∙◌}
use Rattle.std.specs.Option.{option_copied}
use Rattle.depot_graph.specs.Kept.{updates_in}
use Rattle.depot_questions.specs.Answers.{keys_above}
use Rattle.depot_questions.specs.declared.question_answer.KeyPage.{KeyPage}
use Rattle.depot_questions.proofs.LeastLaws.{enough, lent}
use Rattle.depot_questions.proofs.keys.keys_above.Goals as goal

pub returns : goal.returns
returns c =
    let listed = ap lent (c.as_slice.ensures.value ∙ c.in_ok-list.ensures) in
    subst (λ (right : KeyPage). IfOk c.page_of.result (λ page. page ≡ right)) (enough (keys_above (updates_in c.args.graph.now.items.entries) (option_copied c.args.after)) (lent c.as_slice.result.now) (listed ∙ c.in_ok-least.ensures)) c.page_of.ensures
