use Rattle.depot_node.specs.Holdings.{node_setting}
use Rattle.depot_node.proofs.Starts.{other_begins}
use Rattle.depot_node.proofs.start_reading.check_origin.Goals as goal
use Rattle.depot_node.proofs.start_reading.check_origin.Goals.{in-Birth, in_default}

pub returns-clause-other : goal.returns-clause-other
returns-clause-other g c =
    let text = c.decode_record.ensures.found c.in-Ok.item c.in-Ok.is in
    elim c.match-item.branch [
      | in-Birth w ↦ rw w.checked-is (other_begins (node_setting g.S.Scheme.verifies c.args.store.now) c.args.first.now c.in-Ok.item w.in-Birth.node w.in-Birth.roster w.check_birth-checked.result text.0 text.1 w.in-Birth.is w.check_birth-checked.ensures.other)
      | in_default w ↦ rw w.checked-is tt
    ]
