use Rattle.std.proofs.Common.{arith}
use Rattle.depot_laws.proofs.own_updates.OwnTexts.{lawful_is_short}
use Rattle.depot_readings.proofs.LeafLaws.{few_leaves}
use Rattle.depot_readings.proofs.readings.Readings.leaves_with.Goals as goal

pub leaves_with-requires : goal.leaves_with-requires
leaves_with-requires g c =
    let short = lawful_is_short _ c.self.inside.records.items c.self.invariant.1.lawful in
    let few = few_leaves c.self.inside.parts.kept.state.me c.self.inside.records.items in
    omega (arith, c.self.invariant.0.read.totals.leaves, few, short)
