use Rattle.std.proofs.Common.{List, refl, sym, subst, arith}
use Rattle.depot_base.specs.declared.record.Record.{Record}
use Rattle.depot_laws.proofs.lists.Splits.{lawful_none}
use Rattle.depot_readings.specs.ReadingsParts.{AreCounted, AreReadings}
use Rattle.depot_readings.proofs.readings.Readings.new.Goals as goal

pub invariant_of-result : goal.invariant_of-result
invariant_of-result g c =
    let parts = c.new.result in
    subst (λ (J : List Record). AreReadings J parts.kept.state parts.kept.values parts.kept.totals parts.named parts.lacking parts.places.places parts.mine.ids parts.front × AreCounted g.S.Scheme.verifies J parts.kept.state 0 1) (sym c.new-2.ensures)
    (c.new.ensures.readings, record { records = refl; size = omega arith; lawful = lawful_none _ })
