use Rattle.depot_laws.proofs.orders.ClosedPaths.{closed_from, closed_to}
use Rattle.depot_laws.proofs.audits.closures_find_paths.Goals as goal

pub returns : goal.returns
returns c edge among a b = (λ e. closed_to edge among a b e, λ p. closed_from edge among a b p)
