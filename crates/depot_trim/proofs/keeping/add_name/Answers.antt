use Rattle.std.proofs.Common.{◌∙◌, sym}
use Rattle.std.proofs.lemmas.Result.{on_ok_weaker}
use Rattle.depot_model.specs.journals.Journal.{held}
use Rattle.depot_trim.proofs.KeptValues.{held_fits, none_more}
use Rattle.depot_trim.proofs.keeping.add_name.Goals as goal

pub add_value-requires-clause-sized : goal.add_value-requires-clause-sized
add_value-requires-clause-sized g c = held_fits _ (g.N.NodeState.records c.args.node.now) c.args.name.now _ (g.met.N.Replica.lawful c.args.node.now) (sym c.in-Some.ensures)

pub add_value-requires-clause-held : goal.add_value-requires-clause-held
add_value-requires-clause-held g c = (held (g.N.NodeState.records c.args.node.now), sym c.in-Some.ensures)

pub returns-in-Some : goal.returns-in-Some
returns-in-Some g c = on_ok_weaker c.add_value.result (λ ok. ok (held (g.N.NodeState.records c.args.node.now)) (sym c.in-Some.ensures)) c.add_value.ensures

pub returns-in-None : goal.returns-in-None
returns-in-None g c = λ wants kept h. kept h ∙ sym (none_more (held (g.N.NodeState.records c.args.node.now)) c.args.name.now wants (sym c.in-None.ensures) h)
