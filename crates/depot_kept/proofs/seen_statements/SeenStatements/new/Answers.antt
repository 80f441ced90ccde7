use Rattle.depot_kept.proofs.KeepLaws.{nothing_kept}
use Rattle.depot_kept.proofs.seen_statements.SeenStatements.new.Goals as goal

pub invariant_of-result : goal.invariant_of-result
invariant_of-result c = nothing_kept _ _ c.new.ensures.items c.new-2.ensures.listed c.new-2.ensures.count
