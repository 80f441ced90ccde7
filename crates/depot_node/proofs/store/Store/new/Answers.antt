use Rattle.std.proofs.Common.{ap, refl, arith}
use Rattle.depot_readings.specs.ReadingsView.{Known}
use Rattle.depot_node.proofs.store.Store.new.Goals as goal

pub invariant_of-result : goal.invariant_of-result
invariant_of-result g c = (record { fit = tt; are = refl }, omega arith, λ runs. ap (λ (k : Known). k.records) c.new.ensures)
