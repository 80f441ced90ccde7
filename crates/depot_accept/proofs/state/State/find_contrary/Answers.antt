use Rattle.std.proofs.Common.{sym}
use Rattle.depot_accept.proofs.DueConvictions.{same_foreign}
use Rattle.depot_accept.proofs.KeptStatements.{none_named, named_contrary, named_agrees}
use Rattle.depot_accept.proofs.state.State.find_contrary.Goals as goal

pub returns-in_default : goal.returns-in_default
returns-in_default g c = none_named c.self.inside.seen.kept c.args.self.now.foreign c.args.prev.now c.args.statement.now (same_foreign _ _ c.self.view_is) (sym c.in_default.ensures)

pub returns-in-Some-kind_with : goal.returns-in-Some-kind_with
returns-in-Some-kind_with g c = named_contrary c.self.inside.seen.kept c.args.self.now.foreign c.args.prev.now c.args.statement.now c.in-Some.index c.in-Some-kind_with.kind (same_foreign _ _ c.self.view_is) (sym c.in-Some.ensures) c.in-Some-kind_with.ensures

pub returns-in-None : goal.returns-in-None
returns-in-None g c = named_agrees c.self.inside.seen.kept c.args.self.now.foreign c.args.prev.now c.args.statement.now c.in-Some.index (same_foreign _ _ c.self.view_is) (sym c.in-Some.ensures) c.in-None.ensures
