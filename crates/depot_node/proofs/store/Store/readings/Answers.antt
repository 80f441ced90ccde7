use Rattle.std.proofs.Common.{refl}
use Rattle.depot_node.proofs.SeenRecords.{readings_are, runs_inside}
use Rattle.depot_node.proofs.store.Store.readings.Goals as goal

pub returns : goal.returns
returns g c = readings_are _ _ c.self.inside.readings c.self.view_is refl refl (c.self.invariant.2 (runs_inside _ _ c.self.view_is c.requires))
