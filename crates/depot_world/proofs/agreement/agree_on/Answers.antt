use Rattle.std.proofs.Common.{ℕ, List, ap, ◌∙◌}
use Rattle.std.specs.List.{filter_map}
use Rattle.std.specs.Borrow.{Bor}
use Rattle.depot_world.specs.Summaries.{are_same, writes_under}
use Rattle.depot_world.proofs.of_loads.KeptLoads.{last_seen}
use Rattle.depot_world.proofs.agreement.agree_on.Goals as goal

pub returns : goal.returns
returns c =
    c.are_same.ensures
    ∙ ap are_same (last_seen (λ (writes : Bor (List ℕ)). writes.now) 5 c.as_slice-all.result.now c.in_ok-all.all.items (filter_map (writes_under c.args.key.now) c.args.lines.now) c.saturating_sub.result c.as_slice-all.ensures.value c.in_ok-all.ensures c.saturating_sub.ensures)
