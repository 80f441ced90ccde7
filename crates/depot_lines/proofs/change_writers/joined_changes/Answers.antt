use Rattle.std.proofs.lemmas.Result.{on_ok_weaker}
use Rattle.depot_lines.specs.Vocabulary.{text_of_change}
use Rattle.depot_lines.proofs.WrittenSteps.{join-written}
use Rattle.depot_lines.proofs.change_writers.joined_changes.Goals as goal

pub returns-in_ok-bare_change-in-len1-up : goal.returns-in_ok-bare_change-in-len1-up
returns-in_ok-bare_change-in-len1-up c =
    on_ok_weaker c.behind_commas.result (λ written. join-written 44 text_of_change c.args.changes.now c.first-item.result c.args.out.now c.bare_change.new.out c.behind_commas.new.out c.in-len1-up.len_at_least c.first-item.is c.in_ok-bare_change-in-len1-up.ensures written) c.behind_commas.ensures
