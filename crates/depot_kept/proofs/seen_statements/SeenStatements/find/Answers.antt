use Rattle.std.proofs.Common.{ap}
use Rattle.depot_kept.specs.Opponents.{KeptSigned}
use Rattle.depot_kept.proofs.OpponentLaws.{last_found}
use Rattle.depot_kept.proofs.seen_statements.SeenStatements.find.Goals as goal

pub returns : goal.returns
returns c = last_found c.self.inside.entries.items c.self.inside.table _ c.args.id.now c.places.result c.last.result c.self.invariant (ap (λ (k : KeptSigned). k.kept) c.self.view_is) c.places.ensures c.last.ensures.ran
