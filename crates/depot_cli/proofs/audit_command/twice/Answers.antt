use Rattle.std.proofs.Common.{ℕ, List, ◌++◌, codes, ap, ◌∙◌}
use Rattle.std.proofs.lemmas.Result.{IfOk-weaker}
use Rattle.std.specs.Fmt.{decimal}
use Rattle.depot_cli.specs.declared.status.Status.TheVariants.{Input}
use Rattle.depot_cli.specs.declared.outcome.CommandOutcome.{CommandOutcome}
use Rattle.depot_cli.proofs.PrintedLines.{behind_three}
use Rattle.depot_cli.proofs.audit_command.twice.Goals as goal

abbrev printed : List ℕ → CommandOutcome
printed text = record { status = Input; text = text }

pub returns : goal.returns
returns c =
    let line = c.as_str.ensures.value ∙ c.in_ok-line.ensures.ok ∙ behind_three (codes "input ") c.args.name.now (codes " twice ") (decimal c.number-node.result) (codes "\n") ∙ ap (λ (n : ℕ). codes "input " ++ (c.args.name.now ++ codes " twice " ++ decimal n ++ codes "\n")) c.number-node.ensures.same in
    IfOk-weaker c.of_line.result _ _ (λ o is. is ∙ ap printed line) c.of_line.ensures
